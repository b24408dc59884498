-- What the reader of job sheets promises, and the laws that its proofs cite.
--
--   Serves     what the tables of an accepted sheet say of it; the promise of the public entry
--   Entries    what the tables of lists and of allowed pairs say, entry by entry
--   Ends       what the table of rules by their risers says
--   Whole      the whole sheet
--   Steps      how far a reader has come
--   Callers    what a caller has of an answer; no second answer fits
--
-- The tables, how they are asked, and what the answer for a section tells are in crate `fields`.
pub mod Serves
pub mod Entries
pub mod Ends
pub mod Whole
pub mod Steps
pub mod Callers
