-- The inverse of a list of carriers, filled from the last place to the first: where a carrier stands more than once, the
-- first place is stored last and stays.
--
--   Undone k p out i   at each carrier below k, out has the carrier's first place in p among those from i on, or p's length
--
-- No place has been gone through to begin with, each turn goes through one more, and when all have been, the list is the
-- inverse (`undone_inverse`).
-- Assumes nothing.
use Rattle.std.specs.Prelude.{◌≡◌, refl, List, ℕ, suc, ◌+◌, ◌≤◌, ◌<◌, length, drop, set}
use Rattle.std.proofs.Math.Path.{sym}
use Rattle.std.proofs.Common.{◌∙◌, le_of_eq, eq-eqb, ne_eqb, length-set, drop_of_length-le, drop-cons, get_or-set_same, get_or-set_other}
use native.Mathlib.Omega.{arith}
use Rattle.std.proofs.Math.Decide.{ℕ_discrete}
use Rattle.std.proofs.Math.Seq.{ext_get_or}
use Rattle.ground.specs.Meanings.Group.{at, tab}
use Rattle.ground.proofs.Laws.Lists.{length_tab, at_tab}
use Rattle.ground.specs.Laws.Permutations.{find, inv}

pub record Undone (k : ℕ) (p out : List ℕ) (i : ℕ) : Type 0 where
  pub within : i ≤ length p
  pub size : length out ≡ k
  pub places : (c : ℕ) → c < k → at out c ≡ i + find (drop i p) c

pub undone_start : (k : ℕ) (p : List ℕ) (n : ℕ) (out : List ℕ) → length p ≡ n → length out ≡ k → ((c : ℕ) → c < k → at out c ≡ n) → Undone k p out n
undone_start k p n out w e h = record {
  within = omega arith;
  size = e;
  places = λ c l. h c l ∙ rw (drop_of_length-le p (le_of_eq w)) (omega arith);
}

module _ {k : ℕ} {p out : List ℕ} {n : ℕ} (s : Undone k p out n) where
  pub undone_inverse : n ≡ 0 → out ≡ inv k p
  unfolding inv
  undone_inverse e =
      ext_get_or 0 out (tab k (find p)) (s.size ∙ sym (length_tab k (find p)))
      (λ c l. let h : c < k = omega (arith, s.size) in rw e at (s.places c h) ∙ omega arith ∙ sym (at_tab k (find p) c h))

  module _ (i : ℕ) (next : n ≡ suc i) where
    abbrev Place : List ℕ → ℕ → Type 0
    Place o c = at o c ≡ i + find (drop i p) c

    here : i < length p
    here = omega (arith, s.within)

    -- the first place from i on is i, or the first after it
    found : find (drop i p) (at p i) ≡ 0
    found = rw (drop-cons p i 0 here, eq-eqb (at p i) (at p i) refl)

    passed : (c : ℕ) → c < k → (c ≡ at p i → ⊥) → Place out c
    passed c l d =
        let e : find (drop i p) c ≡ suc (find (drop (suc i) p) c) = rw (drop-cons p i 0 here, ne_eqb (at p i) c (λ f. d (sym f))) in
        rw next at (s.places c l) ∙ omega arith

    pub undone_stored : at p i < k → Undone k p (set out (at p i) i) i
    undone_stored h = record {
      within = omega (arith, here);
      size = length-set out (at p i) i ∙ s.size;
      places = λ c l. place c l (ℕ_discrete c (at p i));
    }
      where
        place : (c : ℕ) → c < k → Dec (c ≡ at p i) → Place (set out (at p i) i) c
        place c l (yes e) = rw e (get_or-set_same out (at p i) i 0 (omega (arith, s.size)) ∙ omega (arith, found))
        place c l (no d) = get_or-set_other out (at p i) c i 0 d ∙ passed c l d

    pub undone_left : k ≤ at p i → Undone k p out i
    undone_left h = record { within = omega (arith, here); size = s.size; places = λ c l. passed c l (λ (e : c ≡ at p i). omega arith) }
