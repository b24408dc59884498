-- What Saucewagon means by its words, and the words that its laws and theorems speak in.
--
--   Meanings   docs/SHEET.md as definitions: what a reader must believe, and nothing that is proved
--   Laws       the words of the facts about the meanings
--   Theorems   the words of what the customer asked for
--   Worked     sheets worked by hand, with their answers
--
-- The facts and the theorems are in proofs/.
pub mod Meanings
pub mod Laws
pub mod Theorems
pub mod Worked
