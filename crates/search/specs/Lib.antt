-- The search: what its functions ask and promise, and why they keep it.
--
--   Answer     what the search asks and promises
--   Search     what the functions below it ask and promise each other
--   Fitting    what a level and the rules say of the carriers after a row
--   Trying     the riser function and the carrier function
--   Starting   the search from the empty row
pub mod Answer
pub mod Search
pub mod Fitting
pub mod Trying
pub mod Starting
