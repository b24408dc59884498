-- What the answer of a test says.
--
--   Tells r P   r is whether P
--
-- Its laws are in proofs/Laws/Telling.antt.
-- These are definitions: nothing is assumed or proved here.
use Rattle.std.specs.Prelude.{◌≡◌, Bool, true, false}

pub record Tells (r : Bool) (P : Type 0) : Type 0 where
  pub yes : r ≡ true → P
  pub no : r ≡ false → ¬ P
