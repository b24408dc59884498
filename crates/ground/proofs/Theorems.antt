-- What the customer asked for, as statements over the meanings, proved; the words that they speak in are in specs/Theorems.
--
--   Kinds          demand 3: each plan an image of exactly one listed plan; sizes sum to the total; nothing listed exactly if no plan
--   OneAnswer      no second answer fits, for listing and for folding
--   Listed         demands 2 and 3 for whatever fits the meaning of a listing, so for the code
--   Folded         demand 2 for whatever fits the meaning of folding; where one member carries the row, it is settled too
--   LongestSheet   the longest sheet is 30,214 bytes, and one byte more decides every sheet
--   Reckoned       every call has an answer, found by trying all rows and all images
pub mod Kinds
pub mod OneAnswer
pub mod Reckoned
pub mod Listed
pub mod Folded
pub mod LongestSheet
