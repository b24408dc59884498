-- Twelve sheets worked by hand, with their answers: one table.
--
--   Case      a call, with all that it is given, and all that it must leave
--   Right c   what the case says is left fits the meanings
--   starred   the table
--
-- That every case of it is right is proved in proofs/Worked.antt.
-- These are definitions: nothing is assumed or proved here.
use Rattle.std.specs.Prelude.{ℕ}
use mathlib.Core.List.{List, [], ◌∷◌, ◌++◌}
use Rattle.ground.specs.Meanings.Sheet.{sheet_ends, list_not_kept, rule_not_kept, bytes_follow, opened_beyond, listed_beyond, fault, no_fault}
use Rattle.ground.specs.Meanings.Listing.{Left, left, Lists}
use Rattle.ground.specs.Meanings.Folding.{Folded, folded, Folds}

pub data Case : Type 0 where
  lists : List ℕ → ℕ → List ℕ → List ℕ → Left → Case
  folds : List ℕ → List ℕ → List ℕ → List ℕ → Folded → Case

abbrev pub Right : Case → Type 0
Right (lists s allowance bytes sizes o) = Lists s allowance bytes sizes o
Right (folds s row first member o) = Folds s row first member o

-- ---- the sheets

abbrev pub unequal : List ℕ
unequal = 0 ∷ 1 ∷ 0 ∷ 2 ∷ 1 ∷ 0 ∷ 1 ∷ 2 ∷ 2 ∷ 0 ∷ 2 ∷ 1 ∷ []

-- two risers that must differ, on three carriers
abbrev pub differing : List ℕ
differing = 3 ∷ 2 ∷ 3 ∷ 0 ∷ 1 ∷ 2 ∷ 3 ∷ 0 ∷ 1 ∷ 2 ∷ 1 ∷ 0 ∷ 1 ∷ 6 ∷ unequal

abbrev pub sheet_a : List ℕ
sheet_a = differing ++ (2 ∷ 1 ∷ 0 ∷ 2 ∷ 1 ∷ 2 ∷ 0 ∷ [])

abbrev pub sheet_b : List ℕ
sheet_b = differing ++ (0 ∷ [])

abbrev pub sheet_c : List ℕ
sheet_c = 3 ∷ 3 ∷ 3 ∷ 0 ∷ 1 ∷ 2 ∷ 3 ∷ 0 ∷ 1 ∷ 2 ∷ 3 ∷ 0 ∷ 1 ∷ 2 ∷ 0 ∷ 2 ∷ 1 ∷ 0 ∷ 2 ∷ 1 ∷ 2 ∷ 0 ∷ []

abbrev pub sheet_d : List ℕ
sheet_d = differing ++ (1 ∷ 1 ∷ 2 ∷ 0 ∷ [])

-- three risers pairwise different, on two carriers that are alike
abbrev pub sheet_e : List ℕ
sheet_e = 2 ∷ 3 ∷ 2 ∷ 0 ∷ 1 ∷ 2 ∷ 0 ∷ 1 ∷ 2 ∷ 0 ∷ 1 ∷ 3 ∷ 0 ∷ 1 ∷ 2 ∷ 0 ∷ 1 ∷ 1 ∷ 0 ∷ 0 ∷ 2 ∷ 2 ∷ 0 ∷ 1 ∷ 1 ∷ 0 ∷ 1 ∷ 2 ∷ 2 ∷ 0 ∷ 1 ∷ 1 ∷ 0 ∷ 1 ∷ 1 ∷ 0 ∷ []

abbrev pub sheet_f : List ℕ
sheet_f = 2 ∷ 1 ∷ 1 ∷ 0 ∷ 0 ∷ 1 ∷ 1 ∷ 0 ∷ []

abbrev pub sheet_g : List ℕ
sheet_g = 2 ∷ 2 ∷ 2 ∷ 0 ∷ 1 ∷ 2 ∷ 0 ∷ 1 ∷ 1 ∷ 0 ∷ 1 ∷ 1 ∷ 0 ∷ 1 ∷ 1 ∷ 1 ∷ 0 ∷ []

-- ---- the table

abbrev pub starred : List Case
starred =
    -- A: one row, 0 1, size 6; the rest of both lists is unchanged
    lists sheet_a 1000000 (9 ∷ 9 ∷ 9 ∷ 9 ∷ 9 ∷ []) (8 ∷ 8 ∷ []) (left no_fault 1 2 6 (0 ∷ 1 ∷ 9 ∷ 9 ∷ 9 ∷ []) (6 ∷ 8 ∷ [])) ∷
    -- B: without swaps six rows of size 1
    lists sheet_b 1000000 (9 ∷ 9 ∷ 9 ∷ 9 ∷ 9 ∷ 9 ∷ 9 ∷ 9 ∷ 9 ∷ 9 ∷ 9 ∷ 9 ∷ 9 ∷ []) (8 ∷ 8 ∷ 8 ∷ 8 ∷ 8 ∷ 8 ∷ 8 ∷ []) (left no_fault 6 9 6 (0 ∷ 1 ∷ 0 ∷ 2 ∷ 1 ∷ 0 ∷ 1 ∷ 2 ∷ 2 ∷ 0 ∷ 2 ∷ 1 ∷ 9 ∷ []) (1 ∷ 1 ∷ 1 ∷ 1 ∷ 1 ∷ 1 ∷ 8 ∷ [])) ∷
    -- C: no rules, five kinds
    lists sheet_c 1000000 (9 ∷ 9 ∷ 9 ∷ 9 ∷ 9 ∷ 9 ∷ 9 ∷ 9 ∷ 9 ∷ 9 ∷ 9 ∷ 9 ∷ 9 ∷ 9 ∷ 9 ∷ 9 ∷ []) (8 ∷ 8 ∷ 8 ∷ 8 ∷ 8 ∷ []) (left no_fault 5 8 27 (0 ∷ 0 ∷ 0 ∷ 0 ∷ 0 ∷ 1 ∷ 0 ∷ 1 ∷ 0 ∷ 0 ∷ 1 ∷ 1 ∷ 0 ∷ 1 ∷ 2 ∷ 9 ∷ []) (3 ∷ 6 ∷ 6 ∷ 6 ∷ 6 ∷ [])) ∷
    -- D: the carriers turn round in a ring
    lists sheet_d 1000000 (9 ∷ 9 ∷ 9 ∷ 9 ∷ 9 ∷ []) (8 ∷ 8 ∷ 8 ∷ []) (left no_fault 2 3 6 (0 ∷ 1 ∷ 0 ∷ 2 ∷ 9 ∷ []) (3 ∷ 3 ∷ 8 ∷ [])) ∷
    -- E: no plan; E1: refused by the allowance
    lists sheet_e 2 (9 ∷ 9 ∷ 9 ∷ []) (8 ∷ []) (left no_fault 0 2 0 (9 ∷ 9 ∷ 9 ∷ []) (8 ∷ [])) ∷
    lists sheet_e 1 (9 ∷ 9 ∷ 9 ∷ []) (8 ∷ []) (left (fault opened_beyond 0) 0 1 0 (255 ∷ 255 ∷ 255 ∷ []) (0 ∷ [])) ∷
    -- F, G: swaps that keep no list, no rule
    lists sheet_f 1000000 (9 ∷ []) (8 ∷ []) (left (fault list_not_kept 6) 0 0 0 (9 ∷ []) (8 ∷ [])) ∷
    lists sheet_g 1000000 (9 ∷ []) (8 ∷ []) (left (fault rule_not_kept 15) 0 0 0 (9 ∷ []) (8 ∷ [])) ∷
    -- H: no bytes, and one byte more
    lists [] 1000000 (9 ∷ []) (8 ∷ []) (left (fault sheet_ends 0) 0 0 0 (9 ∷ []) (8 ∷ [])) ∷
    lists (sheet_a ++ (0 ∷ [])) 1000000 (9 ∷ []) (8 ∷ []) (left (fault bytes_follow 33) 0 0 0 (9 ∷ []) (8 ∷ [])) ∷
    -- J: D with room 1; the fillings cover the whole of both lists
    lists sheet_d 1000000 (9 ∷ 9 ∷ 9 ∷ 9 ∷ 9 ∷ []) (8 ∷ []) (left (fault listed_beyond 0) 2 3 6 (255 ∷ 255 ∷ 255 ∷ 255 ∷ 255 ∷ []) (0 ∷ [])) ∷
    -- neither allowance nor room is enough: the allowance is asked first
    lists sheet_d 2 (9 ∷ 9 ∷ 9 ∷ []) (8 ∷ []) (left (fault opened_beyond 0) 0 2 0 (255 ∷ 255 ∷ 255 ∷ []) (0 ∷ [])) ∷
    -- K, M: folded rows
    folds sheet_a (2 ∷ 0 ∷ []) (9 ∷ 9 ∷ []) (9 ∷ 9 ∷ 9 ∷ []) (folded no_fault 6 (0 ∷ 1 ∷ []) (1 ∷ 2 ∷ 0 ∷ [])) ∷
    folds sheet_d (1 ∷ 0 ∷ []) (9 ∷ 9 ∷ []) (9 ∷ 9 ∷ 9 ∷ []) (folded no_fault 3 (0 ∷ 2 ∷ []) (2 ∷ 0 ∷ 1 ∷ [])) ∷ []
