-- A list that a loop fills from the front, one entry a turn.
--
--   Filled f start out i   out has the values of f at the places below i, and what start had from i on
--
-- Its laws are in proofs/Laws/Filling.antt.
-- These are definitions: nothing is assumed or proved here.
use Rattle.std.specs.Prelude.{◌≡◌, List, ℕ, ◌≤◌, ◌<◌, length}
use Rattle.ground.specs.Meanings.Group.{at}

pub record Filled (f : ℕ → ℕ) (start out : List ℕ) (i : ℕ) : Type 0 where
  pub within : i ≤ length start
  pub size : length out ≡ length start
  pub done : (j : ℕ) → j < i → at out j ≡ f j
  pub rest : (j : ℕ) → i ≤ j → at out j ≡ at start j
