-- Every way to draw a row from lists: one carrier from each, or from each of the first lists.
--
--   Drawn ls r        r has one carrier from each list of ls
--   Begun ls r        r has one carrier from each of the first lists of ls: one of them, or more, up to all
--   heads l R         each of the rows R after each of the carriers l
--   choices ls        all r with Drawn ls r, ascending where the lists are
--   beginnings ls     all r with Begun ls r
--
-- That these are all is in proofs/Laws/Choices.antt.
-- These are definitions: nothing is assumed or proved here.
use Rattle.std.specs.Prelude.{◌≡◌, ℕ, ◌≤◌, ◌<◌, length, get_or}
use mathlib.Core.List.{List, [], ◌∷◌, ◌++◌, map}
use Rattle.ground.specs.Meanings.Exactly.{◌∈◌}
use Rattle.ground.specs.Meanings.Group.{at}

pub record Drawn (ls : List (List ℕ)) (r : List ℕ) : Type 0 where
  pub long : length r ≡ length ls
  pub from : (i : ℕ) → i < length r → at r i ∈ get_or ls i []

pub record Begun (ls : List (List ℕ)) (r : List ℕ) : Type 0 where
  pub some : 0 < length r
  pub short : length r ≤ length ls
  pub from : (i : ℕ) → i < length r → at r i ∈ get_or ls i []

-- each of the rows R after each of the carriers
abbrev pub heads : List ℕ → List (List ℕ) → List (List ℕ)
heads [] R = []
heads (c ∷ l) R = map (λ r. c ∷ r) R ++ heads l R

abbrev pub choices : List (List ℕ) → List (List ℕ)
choices [] = [] ∷ []
choices (l ∷ ls) = heads l (choices ls)

abbrev pub beginnings : List (List ℕ) → List (List ℕ)
beginnings [] = []
beginnings (l ∷ ls) = heads l ([] ∷ beginnings ls)
