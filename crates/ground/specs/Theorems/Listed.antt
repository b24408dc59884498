-- What an accepted listing has.
--
--   WholeListing ..  an accepted listing: its sheet, its lines, and that both lists hold them
--
-- That whatever fits the meaning of a listing has it is in proofs/Theorems/Listed.antt.
-- These are definitions: nothing is assumed or proved here.
use Rattle.std.specs.Prelude.{◌≡◌, List, ℕ, length}
use Rattle.ground.specs.Meanings.Sheet.{Sheet, Accepted}
use Rattle.ground.specs.Meanings.Plans.{OpenedIs, TotalIs}
use Rattle.ground.specs.Meanings.Listing.{Line, on_sheet, Listing, rows_of, sizes_of, flat, over, Left}

pub record WholeListing (s : List ℕ) (bytes sizes : List ℕ) (o : Left) : Type 0 where
  pub sheet : Sheet
  pub accepted : Accepted s sheet
  pub lines : List Line
  pub listing : Listing (on_sheet sheet) lines
  pub listed : o.listed ≡ length lines
  pub opened : OpenedIs sheet o.opened
  pub total : TotalIs sheet o.total
  pub rows_stand : o.bytes ≡ over (flat (rows_of lines)) bytes
  pub sizes_stand : o.sizes ≡ over (sizes_of lines) sizes
