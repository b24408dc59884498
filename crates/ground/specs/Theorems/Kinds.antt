-- Where the plans of a listing belong.
--
--   ListedFor N F r   the one row of the listing F that r is an image of
--
-- That every plan that keeps the rules has one is in proofs/Theorems/Kinds.antt.
-- These are definitions: nothing is assumed or proved here.
use Rattle.std.specs.Prelude.{◌≡◌, ℕ}
use mathlib.Core.List.{List}
use Rattle.ground.specs.Meanings.Exactly.{◌∈◌}
use Rattle.ground.specs.Meanings.Listing.{Line, rows_of, Notion}

pub record ListedFor (N : Notion) (F : List Line) (r : List ℕ) : Type 0 where
  pub row : List ℕ
  pub listed : row ∈ rows_of F
  pub image : N.Images row r
  pub only : (other : List ℕ) → other ∈ rows_of F → N.Images other r → other ≡ row
