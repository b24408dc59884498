-- The sections of a sheet, each from its start to the end of the sheet.
--
--   from_risers, from_rules, from_swaps, last   the rest of the reading, from the place where that section begins
--
-- That they are the whole sheet is in proofs/Laws/Sections.antt.
-- These are definitions: nothing is assumed or proved here.
use Rattle.std.specs.Prelude.{List, [], ℕ}
use Rattle.ground.specs.Meanings.Sheet.{Outcome, got, and_then, many, count, riser, Rule, rule, swap, nothing_more, Sheet, is_listed_in, allowed_by, most_rules, most_swaps}

module _ (s : List ℕ) where
  abbrev pub last : ℕ → List (List ℕ) → List Rule → List (List ℕ) → ℕ → Outcome Sheet
  last k ls rs gs p = and_then (nothing_more s p) (λ _ p'. got (record { carriers = k; lists = ls; rules = rs; swaps = gs }) p')

  abbrev pub from_swaps : ℕ → ℕ → ℕ → List (List ℕ) → List Rule → ℕ → ℕ → Outcome Sheet
  from_swaps k n m ls rs c p = and_then (many (swap k n m (is_listed_in ls) (allowed_by rs)) c [] s p) (λ gs p'. last k ls rs gs p')

  abbrev pub from_rules : ℕ → ℕ → List (List ℕ) → ℕ → ℕ → Outcome Sheet
  from_rules k n ls m p = and_then (many (rule n (is_listed_in ls)) m [] s p) (λ rs p'. and_then (count 0 most_swaps s p') (λ c p''. from_swaps k n m ls rs c p''))

  abbrev pub from_risers : ℕ → ℕ → ℕ → Outcome Sheet
  from_risers k n p = and_then (many (riser k) n [] s p) (λ ls p'. and_then (count 0 most_rules s p') (λ m p''. from_rules k n ls m p''))
