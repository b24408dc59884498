-- What a listing promises, from what the reader and the search promise.
--
--   Answering  what an answer tells, in the numbers of the refusal table
--   Serving    the reader's tables serve the search
--   Settling   what the search leaves settles the listing's answer
pub mod Answering
pub mod Serving
pub mod Settling
