-- The refusal of each number, which gives a fault back its refusal, and a fault as it is printed.
--
--   refusal_of n   the refusal whose number is n; for what is no refusal's number the last one
--   text_of f      the number and the place of f in decimal, with ` at ` between them
--
-- That it undoes `number_of` is the law of the model of `Fault` in src/lib.rt.
-- These are definitions: nothing is assumed or proved here.
use Rattle.std.specs.Prelude.{List, ◌++◌, ℕ, cond, eqb, codes}
use Rattle.std.specs.Fmt.{decimal}
use Rattle.ground.specs.Meanings.Sheet.{Fault}
use Rattle.ground.specs.declared.Refusal.{Refusal}

abbrev pub refusal_of : ℕ → Refusal
refusal_of n =
    (cond (eqb n 1) Refusal.SheetEnds
    (cond (eqb n 2) Refusal.WrongCount
    (cond (eqb n 3) Refusal.WrongCarrier
    (cond (eqb n 4) Refusal.WrongRule
    (cond (eqb n 5) Refusal.WrongPair
    (cond (eqb n 6) Refusal.NoPermutation
    (cond (eqb n 7) Refusal.ListNotKept
    (cond (eqb n 8) Refusal.RuleNotKept
    (cond (eqb n 9) Refusal.BytesFollow
    (cond (eqb n 10) Refusal.BeyondAllowance
    (cond (eqb n 11) Refusal.BeyondRoom
    (cond (eqb n 12) Refusal.RowNotWhole
    Refusal.BuffersNotFitting))))))))))))

abbrev pub text_of : Fault → List ℕ
text_of f = decimal f.number ++ codes " at " ++ decimal f.place
