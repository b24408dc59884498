-- The last riser, where each carrier that is tried makes a plan.
--
--   Last       what its functions ask and promise
--   Remaining  what is left of a mask whose carriers are tried one after another
--   Finishing  the loop's head, a turn of it, and its two ways out
pub mod Last
pub mod Remaining
pub mod Finishing
