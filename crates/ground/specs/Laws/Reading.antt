-- Words for readings.
--
--   Walk one n s from i p done   of n items read from `from`, i are read, `done`, and p is the place after them
--   All P l                      P holds of each member of l
--
-- The laws of readings are in proofs/Laws/Reading.antt.
-- These are definitions: nothing is assumed or proved here.
use Rattle.std.specs.Prelude.{◌≡◌, List, [], ◌∷◌, ℕ, ◌-◌, ◌≤◌, length}
use Rattle.ground.specs.Meanings.Sheet.{Reading, many}

-- A loop over `many`: i of n items are read, `done`, and `at` is the place

module _ {A : Type 0} (one : List A → Reading A) (n : ℕ) (s : List ℕ) (from : ℕ) where
  pub record Walk (i at : ℕ) (done : List A) : Type 0 where
    pub within : i ≤ n
    pub same : many one (n - i) done s at ≡ many one n [] s from
    pub so_far : length done ≡ i

abbrev pub All : {A : Type 0} → (A → Type 0) → List A → Type 0
All P [] = Unit
All P (x ∷ l) = P x × All P l
