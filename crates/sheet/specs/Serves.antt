-- What the tables of an accepted sheet say of it: what a caller needs, in place of the sheet's bytes.
--
--   Serves X T swaps     the tables T and the table of swaps are those of the sheet X
--   Blank T swaps        the tables as they are before anything is read, and after a refusal
--   Reads s p r T swaps  r answers what the definition says of the sheet at place p of s, and the tables are those of the sheet, or
--                        blank where it is refused
--   head_of X            the numbers of carriers, risers, rules and swaps of the sheet X
--   tell_sheet o         the answer for an outcome o of the whole sheet: its four numbers, or the fault
--   bit b                1 for yes, 0 for no
--   risers_of X q        the two risers of rule q
--
-- The rules that end at riser b stand in one row of `ends`, at b · 12 + a for the lower riser a: a rule's number and one, or 0.
-- These are definitions: nothing is assumed or proved here.
use Rattle.std.specs.Prelude.{◌≡◌, Bool, cond, List, map, ◌++◌, ℕ, ◌+◌, ◌*◌, ◌-◌, ◌<◌, length, get_or, replicate, Result}
use Rattle.ground.specs.Meanings.Group.{at, identity}
use Rattle.ground.specs.Meanings.Sheet.{Fault, Outcome, got, refused, job_sheet, Sheet, Pair, no_rule, is_listed_in, allowed_by, most_carriers, most_risers, most_rules, most_pairs, most_swaps}
use Rattle.ground.specs.Laws.Tables.{blank_tables}
use Rattle.ground.specs.declared.Tables.{Tables}
use Rattle.sheet.specs.declared.Head.{Head}
use Rattle.fields.specs.Tables.{is_listed, is_allowed, padded}
use Rattle.fields.specs.Answers.{tell}

abbrev pub bit : Bool → ℕ
bit b = cond b 1 0

abbrev pub risers_of : Sheet → ℕ → Pair
risers_of X q = (get_or X.rules q no_rule).risers

abbrev pub head_of : Sheet → Head
head_of X = record { carriers = X.carriers; risers = length X.lists; rules = length X.rules; swaps = length X.swaps }

abbrev pub tell_sheet : Outcome Sheet → Result Head Fault
tell_sheet o = tell (λ X p. head_of X) o

pub record Serves (X : Sheet) (T : Tables) (swaps : List (List ℕ)) : Type 0 where
  -- as the code asks them
  pub listed : is_listed T.listed ≡ is_listed_in X.lists
  pub allows : is_allowed T.allowed ≡ allowed_by X.rules
  -- entry by entry
  pub member_at : (r c : ℕ) → r < most_risers → c < most_carriers → at T.listed (r * most_carriers + c) ≡ bit (is_listed_in X.lists r c)
  pub allowed_at : (q u v : ℕ) → q < most_rules → u < most_carriers → v < most_carriers → at T.allowed (q * most_pairs + (u * most_carriers + v)) ≡ bit (allowed_by X.rules q u v)
  pub ends_at : (q : ℕ) → q < length X.rules → at T.ends ((risers_of X q).right * most_risers + (risers_of X q).left) ≡ q + 1
  pub ends_only : (a b q : ℕ) → a < most_risers → b < most_risers → at T.ends (b * most_risers + a) ≡ q + 1 → (q < length X.rules) × (risers_of X q ≡ record { left = a; right = b })
  pub swaps_are : swaps ≡ map (padded most_carriers) X.swaps ++ replicate (most_swaps - length X.swaps) (identity most_carriers)

pub record Blank (T : Tables) (swaps : List (List ℕ)) : Type 0 where
  pub says_nothing : T ≡ blank_tables
  pub all_stay : swaps ≡ replicate most_swaps (identity most_carriers)

pub record Reads (s : List ℕ) (p : ℕ) (r : Result Head Fault) (T : Tables) (swaps : List (List ℕ)) : Type 0 where
  pub told : r ≡ tell_sheet (job_sheet s p)
  pub serves : (X : Sheet) (end : ℕ) → job_sheet s p ≡ got X end → Serves X T swaps
  pub blank : (f : Fault) → job_sheet s p ≡ refused f → Blank T swaps
