-- How far a reading looks.
--
--   Looks m b   the reading m ends at most b bytes on from where it starts, and what stands after those bytes does not matter to it
--
-- Its laws are in proofs/Laws/Looks.antt.
-- These are definitions: nothing is assumed or proved here.
use Rattle.std.specs.Prelude.{◌≡◌, List, ℕ, ◌+◌, ◌≤◌, take}
use Rattle.ground.specs.Meanings.Sheet.{got, Reading}

pub record Looks {A : Type 0} (m : Reading A) (b : ℕ) : Type 0 where
  pub ends : (s : List ℕ) (at : ℕ) (x : A) (p : ℕ) → m s at ≡ got x p → p ≤ at + b
  pub cut : (s : List ℕ) (at n : ℕ) → at + b ≤ n → m (take n s) at ≡ m s at
