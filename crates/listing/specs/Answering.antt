-- What an answer of listing tells, in the numbers and values of the refusal table.
--
--   counted l o t   l plans listed, o rows opened, t plans in all
--   fault_of f      the number and the place of the refusal f: those of the sheet's, or 10 or 11 at 0
--   numbers_of f    what the refusal f counts: nothing where the sheet is refused; beyond the allowance the opened rows alone
--   told r b z      all that a call leaves that answers r: its fault, or none, what it counts, and the lent lists as they are
--   SheetRefused s r   where r is the answer that the sheet is refused, the bytes s are refused with that fault
--
-- These are definitions: nothing is assumed or proved here.
use Rattle.std.specs.Prelude.{◌≡◌, List, ℕ, Result, Ok, Err}
use Rattle.ground.specs.Meanings.Sheet.{Fault, opened_beyond, listed_beyond, fault, no_fault}
use Rattle.ground.specs.Meanings.Sheet as meanings
use Rattle.ground.specs.Meanings.Listing.{Left, left}
use Rattle.listing.specs.declared.Listed.{Listed}
use Rattle.listing.specs.declared.Refused.{Refused}

abbrev pub counted : ℕ → ℕ → ℕ → Listed
counted listed opened total = record { listed = listed; opened = opened; total = total }

abbrev pub fault_of : Refused → Fault
fault_of (Refused.Sheet f) = f
fault_of (Refused.BeyondAllowance opened) = fault opened_beyond 0
fault_of (Refused.BeyondRoom n) = fault listed_beyond 0

abbrev pub numbers_of : Refused → Listed
numbers_of (Refused.Sheet f) = counted 0 0 0
numbers_of (Refused.BeyondAllowance opened) = counted 0 opened 0
numbers_of (Refused.BeyondRoom n) = n

abbrev pub told : Result Listed Refused → List ℕ → List ℕ → Left
told (Ok n) bytes sizes = left no_fault n.listed n.opened n.total bytes sizes
told (Err f) bytes sizes = left (fault_of f) (numbers_of f).listed (numbers_of f).opened (numbers_of f).total bytes sizes

abbrev pub SheetRefused : List ℕ → Result Listed Refused → Type 0
SheetRefused s r = (f : Fault) → r ≡ Err (Refused.Sheet f) → meanings.Refused s f
