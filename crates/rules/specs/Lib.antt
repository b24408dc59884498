-- What the tables of a sheet say, as masks.
--
--   Books       what the tables say as masks, and which carriers pass
--   Narrowing   the rules of a riser are asked one after another
--   Writing     the book is written, riser by riser and rule by rule
pub mod Books
pub mod Narrowing
pub mod Writing
