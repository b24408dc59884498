-- What a search goes through, whatever remembers the rules and the group for it.
--
--   Visits    the rows below a row by a weight, and what each visit does to the numbers and the lent lists
--   Weights   what a weight must be, by what may follow a row and by the group
--   Walks     what a search goes through, in the words of the meanings
--   Runs      visits one after another, a stop, the carriers that are not tried, the last riser
--   Rows      a carrier is put into a row
--   Budgets   what class sizes may add up to
--   Joins     what is in joined visits, and that they ascend
--   Growing   what is needed of the group
--   OnSheet   the weight of a sheet, and that the tables which serve it have it
--   Openings  the visits by that weight are a walk
--   Wholes    the plans among the rows of a walk are the listing
--   Written   what a run leaves
pub mod Visits
pub mod Weights
pub mod Walks
pub mod Runs
pub mod Rows
pub mod Budgets
pub mod Joins
pub mod Growing
pub mod OnSheet
pub mod Openings
pub mod Wholes
pub mod Written
