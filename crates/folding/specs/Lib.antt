-- What folding keeps on its way along a row, and what its promise means.
--
--   Leading       the least carrier of an orbit, found over a transversal
--   Settling      a row that is settled carrier by carrier: held, first, and counted
--   Carrying      a whole row folded, and what that is at the sheet's own width
--   Wholeness     the test of a row that is to be folded
--   Served        what the reader tells of an accepted sheet
--   Answering     what each answer of folding says
--   Consequences  what follows from the promise of folding
pub mod Leading
pub mod Settling
pub mod Carrying
pub mod Wholeness
pub mod Served
pub mod Answering
pub mod Consequences
