-- The laws of a list that a loop fills from the front, one entry a turn: of `Filled`, in specs/Laws/Filling.antt.
--
-- The list is filled at no place to begin with, each turn fills one more, and a list that is filled at every place is the
-- table of f (`filled_table`): the identity, a product, or a row moved, by what f is.
-- Assumes nothing.
use Rattle.std.specs.Prelude.{◌≡◌, refl, List, [], ◌∷◌, map, ℕ, ◌+◌, ◌≤◌, ◌<◌, length, set}
use Rattle.std.proofs.Common.{sym, ap, ◌∙◌, arith, below_more, length-set, ext_get_or, get_or-set_other}
use Rattle.ground.specs.Meanings.Group.{at, tab, mul, move}
use Rattle.ground.proofs.Laws.Lists.{length_tab, at_tab, fill_more}
use Rattle.ground.specs.Laws.Filling.{Filled}

table_map : (f : ℕ → ℕ) (l : List ℕ) → tab (length l) (λ j. f (at l j)) ≡ map f l
table_map f [] = refl
table_map f (a ∷ l) = ap (λ (m : List ℕ). f a ∷ m) (table_map f l)

pub filled_start : (f : ℕ → ℕ) (start : List ℕ) → Filled f start start 0
filled_start f start = record { within = omega arith; size = refl; done = λ j l. absurd (omega arith); rest = λ j l. refl }

module _ {f : ℕ → ℕ} {start out : List ℕ} {i : ℕ} (s : Filled f start out i) where
  pub filled_more : i < length start → (v : ℕ) → v ≡ f i → Filled f start (set out i v) (i + 1)
  filled_more h v e =
      let l : i < length out = omega (arith, s.size) in
      record {
        within = omega arith;
        size = length-set out i v ∙ s.size;
        done = rw e (fill_more f out i l s.done);
        rest = λ j m. get_or-set_other out i j v 0 (λ (d : j ≡ i). omega arith) ∙ s.rest j (omega arith);
      }

  -- a place that has its value from the start
  pub filled_kept : i < length start → at start i ≡ f i → Filled f start out (i + 1)
  filled_kept h e = record {
    within = omega arith;
    size = s.size;
    done = below_more (λ j. at out j ≡ f j) i s.done (s.rest i (omega arith) ∙ e);
    rest = λ j m. s.rest j (omega arith);
  }

  pub filled_table : length start ≤ i → out ≡ tab (length start) f
  filled_table h =
      ext_get_or 0 out (tab (length start) f) (s.size ∙ sym (length_tab (length start) f))
      (λ j l. s.done j (omega (arith, s.size)) ∙ sym (at_tab (length start) f j (omega (arith, s.size))))

pub filled_mul : (p q : List ℕ) {start out : List ℕ} {i : ℕ} → Filled (λ c. at q (at p c)) start out i → length start ≤ i → length p ≡ length start → out ≡ mul p q
unfolding mul
filled_mul p q s h e = filled_table s h ∙ rw e at (table_map (at q) p)

pub filled_move : (g : List ℕ) {row out : List ℕ} {i : ℕ} → Filled (λ j. at g (at row j)) row out i → length row ≤ i → out ≡ move g row
filled_move g {row} s h = filled_table s h ∙ table_map (at g) row
