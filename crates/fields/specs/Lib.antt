-- What the readers of fields and of the risers' section promise, and the laws that all readers of sections cite.
--
--   Tables     the tables that a sheet is read into, and how they are asked
--   Least      the definition's readings, with what came before told by one number
--   Answers    what an answer of the code tells: which outcome of a reading, and what was left in the tables
--   Fields     one field: a number, a count, two bytes
--   Fillings   a loop that reads items and enters each into a table
--   Sections   a count, then as many items
--   Risers     the risers' section
pub mod Tables
pub mod Least
pub mod Answers
pub mod Fields
pub mod Fillings
pub mod Sections
pub mod Risers
