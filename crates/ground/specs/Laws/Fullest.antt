-- The fullest sheet: full lists, between every two risers the rule that allows all pairs, and swaps that are the identity.
--
--   blocks n f       the lists f 0, .. , f (n − 1), one after another
--   table n f        the items f 0, .. , f (n − 1)
--   Sorted b l       each item of l comes before all later ones, by the test b
--   full k           the carriers 0 to k − 1
--   pair u v         the pair (u, v)
--   grid k           all pairs of them, by the left, then by the right
--   free_rule k a b  the rule between the risers a and b that allows all pairs
--   rules_of k n     that rule for every two of n risers
--   fullest k n c    k carriers, n risers with full lists, all those rules, and c times the identity
--
-- That it is valid is in proofs/Laws/Fullest.antt.
-- These are definitions: nothing is assumed or proved here.
use Rattle.std.specs.Prelude.{◌≡◌, Bool}
use Rattle.std.proofs.Math.Bool.{true}
use mathlib.Core.List.{List, [], ◌∷◌, ◌++◌}
use Prim.Native.Nat.{ℕ, zero, suc, ◌+◌, ◌-◌}
use Rattle.ground.specs.Meanings.Exactly.{◌∈◌}
use Rattle.ground.specs.Meanings.Group.{identity}
use Rattle.ground.specs.Meanings.Sheet.{Sheet, Rule, Pair}

-- ---- lists one after another

unfoldable pub blocks : {A : Type 0} → ℕ → (ℕ → List A) → List A
blocks zero f = []
blocks (suc n) f = f zero ++ blocks n (λ x. f (suc x))

module _ {A : Type 0} where
  abbrev pub table : ℕ → (ℕ → A) → List A
  table n f = blocks n (λ x. f x ∷ [])

-- ---- sorted items

abbrev pub Sorted : {A : Type 0} → (A → A → Bool) → List A → Type 0
Sorted b [] = Unit
Sorted b (x ∷ l) = ((y : _) → y ∈ l → b x y ≡ true) × Sorted b l

-- ---- full lists

unfoldable pub full : ℕ → List ℕ
full k = table k (λ c. c)

-- ---- all pairs

abbrev pub pair : ℕ → ℕ → Pair
pair u v = record { left = u; right = v }

unfoldable pub grid : ℕ → List Pair
grid k = blocks k (λ u. table k (pair u))

-- ---- all rules

abbrev pub free_rule : ℕ → ℕ → ℕ → Rule
free_rule k a b = record { risers = pair a b; pairs = grid k }

unfoldable pub rules_of : ℕ → ℕ → List Rule
rules_of k n = blocks n (λ a. table (n - suc a) (λ x. free_rule k a (suc a + x)))

-- ---- the sheet

unfoldable pub fullest : ℕ → ℕ → ℕ → Sheet
fullest k n c = record { carriers = k; lists = table n (λ r. full k); rules = rules_of k n; swaps = table c (λ i. identity k) }
