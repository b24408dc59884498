-- The loops of this crate, turn by turn, over plain lists, and the test of a permutation.
--
--   Undoing   the inverse, filled from the last place to the first
--   Marking   the test of that, byte by byte, with a mark for each carrier that has stood
pub mod Undoing
pub mod Marking
