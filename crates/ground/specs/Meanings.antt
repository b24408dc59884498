-- What docs/SHEET.md says, as definitions, in the order in which they are read.
--
--   Exactly    "exactly these" and "this many"
--   Group      swaps, their products, the group, images of a row, first
--   Sheet      the job sheet, field by field, and refusals 1 to 9
--   Plans      row, rule kept, plan, class size, opened, total
--   Listing    what a listing answers and what it leaves in both lent lists
--   Folding    what folding a row answers and what it leaves in both lent buffers
pub mod Exactly
pub mod Group
pub mod Sheet
pub mod Plans
pub mod Listing
pub mod Folding
