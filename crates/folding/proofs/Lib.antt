-- What is shown of folding besides the steps of it.
--
--   OneAnswer   no second answer is right
pub mod OneAnswer
