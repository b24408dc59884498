-- Whether some bytes are a permutation, byte by byte, with a mark for each carrier that has stood.
--
--   permutes w l          l is a permutation of 0 to k − 1 for its length k, which is at most w
--   Passed k l i          the first i entries of l are below k and differ, so that the test is left to the rest
--   Stood w marks done    the carriers below w that are marked are those in `done`
--   Tested w l marks i    the first i entries of l have passed, and the marks are of those
--
-- A turn ends the test where an entry is too high or has stood before (`tested_out`), and goes on otherwise (`tested_more`); at
-- the end every entry has passed (`tested_end`). `Stood` alone speaks of how it is kept in mind what has stood.
-- Assumes nothing.
use Rattle.std.specs.Prelude.{◌≡◌, refl, Bool, true, false, not, ◌&&◌, ◌||◌, ◌⊎◌, List, [], ◌∷◌, ◌++◌, ℕ, suc, ◌+◌, ◌≤◌, ◌<◌, ltb, leb, eqb, length, get_or, take, drop, set, replicate}
use Rattle.std.proofs.Common.{sym, ◌∙◌, inl, inr, add-one, arith, lt-ltb, le-ltb, le-leb, eq-eqb, ne_eqb, length-set, drop_of_length-le, drop-cons, get_or-set_same, get_or-set_other}
use Rattle.std.proofs.Math.Bool.{or-true, or-false}
use Rattle.std.proofs.Math.Decide.{ℕ_discrete, dec_lt}
use Rattle.std.proofs.lemmas.Bool.{lt-leb}
use Rattle.std.proofs.lemmas.List.{length-replicate, get_or-replicate}
use Rattle.std.proofs.Math.Seq.{take-suc}
use Rattle.ground.specs.Meanings.Group.{at}
use Rattle.ground.specs.Meanings.Sheet.{is_in, all_new}
use Rattle.ground.proofs.Laws.Newness.{is_in_snoc}

-- ---- what has passed

pub record Passed (k : ℕ) (l : List ℕ) (i : ℕ) : Type 0 where
  pub within : i ≤ length l
  pub same : all_new k [] l ≡ all_new k (take i l) (drop i l)

passed_start : (k : ℕ) (l : List ℕ) → Passed k l 0
passed_start k l = record { within = omega arith; same = refl }

module _ {k : ℕ} {l : List ℕ} {i : ℕ} (s : Passed k l i) where
  module _ (h : i < length l) where
    here : all_new k [] l ≡ ((ltb (at l i) k && not (is_in (at l i) (take i l))) && all_new k (take (suc i) l) (drop (suc i) l))
    unfolding all_new
    here = s.same ∙ rw (drop-cons l i 0 h, take-suc l i 0 h)

    passed_high : k ≤ at l i → all_new k [] l ≡ false
    passed_high m = here ∙ rw (le-ltb (at l i) k m)

    passed_again : at l i < k → is_in (at l i) (take i l) ≡ true → all_new k [] l ≡ false
    passed_again m e = here ∙ rw (lt-ltb (at l i) k m, e)

    passed_more : at l i < k → is_in (at l i) (take i l) ≡ false → Passed k l (i + 1)
    passed_more m e = record { within = omega arith; same = rw (add-one i) (here ∙ rw (lt-ltb (at l i) k m, e)) }

  passed_end : length l ≤ i → all_new k [] l ≡ true
  unfolding all_new
  passed_end h = s.same ∙ rw (drop_of_length-le l h)

-- ---- what has stood

pub record Stood (w : ℕ) (marks : List Bool) (done : List ℕ) : Type 0 where
  pub size : length marks ≡ w
  pub told : (c : ℕ) → c < w → is_in c done ≡ get_or marks c false

stood_none : (w : ℕ) → Stood w (replicate w false) []
unfolding is_in
stood_none w = record { size = length-replicate w false; told = λ c l. rw (get_or-replicate {A = Bool} w c false false l) }

stood_more : {w : ℕ} {marks : List Bool} {done : List ℕ} → Stood w marks done → (c : ℕ) → c < w → Stood w (set marks c true) (done ++ (c ∷ []))
stood_more {w} {marks} {done} s c h = record { size = length-set marks c true ∙ s.size; told = λ d l. is_in_snoc d done c ∙ told d l (ℕ_discrete d c) }
  where
    told : (d : ℕ) → d < w → Dec (d ≡ c) → (is_in d done || eqb d c) ≡ get_or (set marks c true) d false
    told d l (yes e) = rw (eq-eqb d c e, or-true (is_in d done), e, get_or-set_same marks c true false (omega (arith, s.size)))
    told d l (no f) = rw (ne_eqb d c f, or-false (is_in d done), get_or-set_other marks c d true false f) (s.told d l)

-- ---- both together

abbrev pub permutes : ℕ → List ℕ → Bool
permutes w l = leb (length l) w && all_new (length l) [] l

pub record Tested (w : ℕ) (l : List ℕ) (marks : List Bool) (i : ℕ) : Type 0 where
  pub few : length l ≤ w
  pub passed : Passed (length l) l i
  pub stood : Stood w marks (take i l)

pub tested_many : (w : ℕ) (l : List ℕ) → w < length l → false ≡ permutes w l
tested_many w l h = rw (lt-leb (length l) w h)

pub tested_start : (w : ℕ) (l : List ℕ) → length l ≤ w → Tested w l (replicate w false) 0
tested_start w l h = record { few = h; passed = passed_start (length l) l; stood = stood_none w }

module _ {w : ℕ} {l : List ℕ} {marks : List Bool} {i : ℕ} (s : Tested w l marks i) where
  answer : (b : Bool) → all_new (length l) [] l ≡ b → b ≡ permutes w l
  answer b e = rw (le-leb (length l) w s.few) (sym e)

  pub tested_end : length l ≤ i → true ≡ permutes w l
  tested_end h = answer true (passed_end s.passed h)

  module _ (h : i < length l) where
    stands : at l i < length l → is_in (at l i) (take i l) ≡ get_or marks (at l i) false
    stands m = s.stood.told (at l i) (omega (arith, s.few))

    pub tested_out : (length l ≤ at l i) ⊎ (get_or marks (at l i) false ≡ true) → false ≡ permutes w l
    tested_out (inl m) = answer false (passed_high s.passed h m)
    tested_out (inr e) = answer false (out (dec_lt (at l i) (length l)))
      where
        out : Dec (at l i < length l) → all_new (length l) [] l ≡ false
        out (yes m) = passed_again s.passed h m (stands m ∙ e)
        out (no f) = passed_high s.passed h (omega arith)

    pub tested_more : at l i < length l → get_or marks (at l i) false ≡ false → Tested w l (set marks (at l i) true) (i + 1)
    tested_more m e = record {
      few = s.few;
      passed = passed_more s.passed h m (stands m ∙ e);
      stood = rw (add-one i, take-suc l i 0 h) (stood_more s.stood (at l i) (omega (arith, s.few)));
    }
