-- The words that the theorems speak in; what the customer asked for is stated with them and proved in proofs/Theorems.
--
--   Kinds          the one listed row that a plan is an image of
--   OneAnswer      what two foldings of one row agree in
--   Listed         what an accepted listing has
--   Folded         what an accepted folding has
--   LongestSheet   the longest sheet
pub mod Kinds
pub mod OneAnswer
pub mod Listed
pub mod Folded
pub mod LongestSheet
