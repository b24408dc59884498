-- What putting words and lines into a page does to it.
--
--   fits page at n              there is room for n bytes at the place
--   Room page at n answer       the answer is whether there is
--   Put page at word p next     with the word put at the place the page is p, and next is the place after the word;
--                               where there is no room, the page is as it came and next is the place itself
--   PutNumber page at n p next  the same for a number's decimal digits, the fewest that hold it
--   Ended page at n p next      with a line feed put at the place the page is p, and next is where a line of n bytes may follow:
--                               the place after the line feed or, where there is no room, the start
--   Unwritten page at n p       with a line feed put at the place the page is p, and a line of n bytes has no room after it
--
--   line_end page at            the place after a line feed put at the place
--   up_to page at               the page's bytes up to the place; none where the place is past its end
--   handed page at n            what of the page is written before a line of n bytes follows at the place: nothing where there is
--                               room for it, else all up to the place
--
-- These are definitions: nothing is assumed or proved here.
use Rattle.std.specs.Prelude.{◌≡◌, Bool, false, cond, List, [], ◌∷◌, ◌++◌, ℕ, ◌+◌, length, take, drop, leb}
use Rattle.text.specs.Digits.{last_digits, IsDigitCount}

abbrev pub fits : List ℕ → ℕ → ℕ → Bool
fits page at n = leb (at + n) (length page)

pub record Room (page : List ℕ) (at n : ℕ) (answer : Bool) : Type 0 where
  pub says : answer ≡ fits page at n

pub record Put (page : List ℕ) (at : ℕ) (word after : List ℕ) (next : ℕ) : Type 0 where
  pub written : after ≡ cond (fits page at (length word)) (take at page ++ (word ++ drop (at + length word) page)) page
  pub place : next ≡ cond (fits page at (length word)) (at + length word) at

pub record PutNumber (page : List ℕ) (at n : ℕ) (after : List ℕ) (next : ℕ) : Type 0 where
  pub count : ℕ
  pub fewest : IsDigitCount 10 1 n count
  pub written : Put page at (last_digits 10 count n) after next

pub record Ended (page : List ℕ) (at longest : ℕ) (after : List ℕ) (next : ℕ) : Type 0 where
  pub end : ℕ
  pub written : Put page at (10 ∷ []) after end
  pub place : next ≡ cond (fits after end longest) end 0

pub record Unwritten (page : List ℕ) (at longest : ℕ) (after : List ℕ) : Type 0 where
  pub end : ℕ
  pub written : Put page at (10 ∷ []) after end
  pub full : fits after end longest ≡ false

abbrev pub line_end : List ℕ → ℕ → ℕ
line_end page at = cond (fits page at 1) (at + 1) at

abbrev pub up_to : List ℕ → ℕ → List ℕ
up_to page at = cond (leb at (length page)) (take at page) []

abbrev pub handed : List ℕ → ℕ → ℕ → List ℕ
handed page at n = cond (fits page at n) [] (up_to page at)
