-- The laws that the reader of the swaps' section cites.
--
--   Swaps      one swap with its tests, all swaps
pub mod Swaps
