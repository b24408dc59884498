-- Facts about the meanings, each stated once over the width and the number of risers; the words that they speak in are in specs/Laws.
-- In the order in which they stand on each other:
--
--   Lists, Enumerations   places and members of a list; two enumerations of one property have one length
--   Filling, Copying      a list that a loop fills, and one that a loop copies into another, one entry a turn
--   Telling               what the answer of a test says
--   Permutations          products and inverses; Newness tells a permutation by its entries
--   Members               the group is closed under products and inverses
--   Closure               what is reached by steps, as a list: one search for orbits, images and members
--   Orbits, Schreier      where a carrier goes, and the swaps that generate the members that hold it
--   Order, Rows           the order of rows; rows moved; first, carrier by carrier
--   ClassSizes, Chains    class size as the product of orbit lengths, along a chain
--   Filter                few swaps that generate what many do
--   Holding               the members that hold a row; first and class size by the last carrier
--   OrbitLengths          the lengths of all orbits together
--   Padding               the group at a wider width is the same group
--   Classes               kinds: one first row in each class, and the sizes add up
--   Reading, Sections     what readings give, and the sections of a sheet
--   Spelling, Valid       a sheet has one spelling, and is accepted exactly if it is valid
--   Sheets                an accepted sheet, fact by fact; its group keeps rows, rules and plans
--   Numbers               a sheet is refused by a number from 1 to 9
--   Looks                 how far a reading looks
--   Fullest               the sheet with every list, rule and pair that there can be is valid
--   Longest               no accepted sheet is longer than 30,214 bytes, and one byte more decides every sheet
--   Choices, Images       all rows drawn from lists, all images of a row, all members, as lists
pub mod Lists
pub mod Enumerations
pub mod Filling
pub mod Copying
pub mod Telling
pub mod Permutations
pub mod Newness
pub mod Members
pub mod Closure
pub mod Orbits
pub mod Schreier
pub mod Order
pub mod Rows
pub mod ClassSizes
pub mod Chains
pub mod Filter
pub mod Holding
pub mod OrbitLengths
pub mod Padding
pub mod Classes
pub mod Reading
pub mod Sections
pub mod Spelling
pub mod Valid
pub mod Sheets
pub mod Numbers
pub mod Looks
pub mod Fullest
pub mod Longest
pub mod Choices
pub mod Images
