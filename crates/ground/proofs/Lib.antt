-- The laws of the meanings in specs/, and what follows from them.
--
--   Laws       facts about the meanings, once over the width and the number of risers
--   Theorems   what the customer asked for, as statements over the meanings; no second answer fits
--   Worked     the sheets worked by hand, proved together
pub mod Laws
pub mod Theorems
pub mod Worked
