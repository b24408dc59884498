-- Where there is room, a word is put in and a line follows; where there is none, the word is left out and the line is the first of
-- the page.
--
-- Assumes nothing.
use Rattle.std.specs.Prelude.{◌≡◌, refl, Bool, true, false, List, [], ◌∷◌, ◌++◌, ℕ, ◌+◌, ◌-◌, ◌≤◌, ◌<◌, leb, length, take, drop}
use Rattle.std.proofs.Common.{sym, ap, ◌∙◌, append-nil, arith, length-drop, drop_of_length-le, take_all, drop-drop, leb-true, leb-false, le-leb}
use Rattle.std.proofs.Math.Seq.{take-length}
use Rattle.std.proofs.lemmas.Bool.{lt-leb}
use Rattle.text.specs.Text.{Room, Put, Ended}

module _ {page : List ℕ} {at n : ℕ} where
  -- more bytes than the page has never fit
  pub too_many : length page < n → Room page at n false
  too_many l = record { says = sym (lt-leb (at + n) (length page) (omega arith)) }

  -- others fit where the place is not past what they leave
  pub before_the_rest : n ≤ length page → Room page at n (leb at (length page - n))
  before_the_rest l = go (leb at (length page - n)) refl
    where
      go : (b : Bool) → leb at (length page - n) ≡ b → Room page at n b
      go true e = let before = leb-true at (length page - n) e in record { says = sym (le-leb (at + n) (length page) (omega arith)) }
      go false e = let after = leb-false at (length page - n) e in record { says = sym (lt-leb (at + n) (length page) (omega arith)) }

  -- where the answer is yes, the bytes lie within the page
  pub within : {answer : Bool} → Room page at n answer → answer ≡ true → at + n ≤ length page
  within room has_room = leb-true (at + n) (length page) (sym room.says ∙ has_room)

-- a word copied to the start of what follows the place
copied : (page word lent : List ℕ) (at : ℕ) → lent ≡ take (length word) word ++ drop (length word) (take (length page - at) (drop at page))
    → lent ++ drop (length page - at) (drop at page) ≡ word ++ drop (at + length word) page
copied page word lent at copy =
    let whole : length (drop at page) ≤ length page - at = simp length-drop (omega arith) in
    let none : drop (length page - at) (drop at page) ≡ [] = drop_of_length-le (drop at page) whole in
    let rest : take (length page - at) (drop at page) ≡ drop at page = take_all (length page - at) (drop at page) whole in
    rw (none, append-nil, copy, rest, take-length, drop-drop)

module _ {page word : List ℕ} {at : ℕ} {answer : Bool} (room : Room page at (length word) answer) where
  pub left_out : answer ≡ false → Put page at word page at
  left_out no_room = let none = sym room.says ∙ no_room in record { written = simp none; place = simp none }

  pub put_in : {lent : List ℕ} → answer ≡ true → lent ≡ take (length word) word ++ drop (length word) (take (length page - at) (drop at page))
      → Put page at word (take at page ++ (lent ++ drop (length page - at) (drop at page))) (at + length word)
  put_in {lent} has_room copy = let some = sym room.says ∙ has_room in
      record { written = simp some (ap (λ (l : List ℕ). take at page ++ l) (copied page word lent at copy)); place = simp some }

module _ {page after : List ℕ} {at longest end : ℕ} {answer : Bool} (put : Put page at (10 ∷ []) after end) (room : Room after end longest answer) where
  -- the next line follows on the page
  pub follows : answer ≡ true → Ended page at longest after end
  follows has_room = let some = sym room.says ∙ has_room in record { end = end; written = put; place = simp some }

  -- the next line begins the page anew
  pub begins : answer ≡ false → Ended page at longest after 0
  begins no_room = let none = sym room.says ∙ no_room in record { end = end; written = put; place = simp none }
