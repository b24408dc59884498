-- The words that the laws speak in, once over the width and the number of risers; the laws themselves are in proofs/Laws. In the
-- order in which they stand on each other:
--
--   Enumerations          the members of a list that a decision holds of
--   Filling, Copying      a list that a loop fills, and one that a loop copies into another, one entry a turn
--   Telling               what the answer of a test says
--   Permutations          inverses; Newness tells a permutation by its entries
--   Members               swaps that are permutations
--   Closure               what is reached by steps
--   Orbits, Schreier      where a carrier goes, and the swaps that generate the members that hold it
--   Rows                  rows whose carriers are below the width
--   Chains                along a row, at each carrier the swaps that hold those before it
--   Filter                few swaps that generate what many do
--   Holding               the members that hold a row
--   OrbitLengths          the lengths of all orbits together
--   Padding               swaps at a wider width
--   Classes               kinds: rows that are images of each other
--   Reading, Sections     readings of items, and the sections of a sheet
--   Spelling, Valid       a sheet written out, and what is valid of it
--   Sheets                what acceptance means for a sheet, fact by fact
--   Tables                a sheet as tables of numbers, and what they say of a carrier
--   Looks                 how far a reading looks
--   Fullest               the sheet with every list, rule and pair that there can be
--   Longest               30,214, the length of the longest sheet
--   Choices               all rows drawn from lists, as lists
pub mod Enumerations
pub mod Filling
pub mod Copying
pub mod Telling
pub mod Permutations
pub mod Newness
pub mod Members
pub mod Closure
pub mod Orbits
pub mod Schreier
pub mod Refusals
pub mod Rows
pub mod Chains
pub mod Filter
pub mod Holding
pub mod OrbitLengths
pub mod Padding
pub mod Classes
pub mod Reading
pub mod Sections
pub mod Spelling
pub mod Valid
pub mod Sheets
pub mod Tables
pub mod Looks
pub mod Fullest
pub mod Longest
pub mod Choices
