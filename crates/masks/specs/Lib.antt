-- Sets of carriers as the bits of one number.
--
--   Masks   what a mask has, what is promised of each function on masks, and the laws
pub mod Masks
