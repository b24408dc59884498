-- What is shown of the listing besides the steps of it.
--
--   OneAnswer   no second answer is right
pub mod OneAnswer
