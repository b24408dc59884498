-- A list that is copied into another some entries at a time.
pub mod Copying
