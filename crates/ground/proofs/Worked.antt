-- The sheets that are worked by hand, in specs/Worked.antt, are proved together against the meanings: one statement (`worked`).
--
-- antt computes what `Reckoned` makes of each case; where that is what the table says, the meanings hold of it (`right`).
-- Assumes nothing.
use Rattle.std.specs.Prelude.{◌≡◌, refl}
use Rattle.std.proofs.Common.{subst}
use mathlib.Core.List.{List, [], ◌∷◌, map, head-eq_of_cons-eq, tail-eq_of_cons-eq}
use Rattle.std.proofs.Math.Decide.{ℕ_discrete, dec_lt}
use Rattle.ground.specs.Meanings.Group.{mul, identity}
use Rattle.ground.specs.Meanings.Sheet.{job_sheet, count, checked, byte, two, field, many, riser, rule_that, swap, carrier, allowed_pair, nothing_more, after, is_in, is_pair_in, first_from, all_new, keeps_carrier, keeps_pair}
use Rattle.ground.specs.Meanings.Listing.{room}
use Rattle.ground.proofs.Laws.Lists.{mem?, all_or, row?}
use Rattle.ground.proofs.Laws.Order.{three}
use Rattle.ground.proofs.Laws.Closure.{closed_or, grown, closure}
use Rattle.ground.proofs.Laws.Images.{images, members}
use Rattle.ground.specs.Laws.Reading.{All}
use Rattle.ground.proofs.Theorems.Reckoned.{decided, all?, below?, implies?, order?, listed?, keeps?, leading?, opened_rows, plans_of, line, lines_of, reckon_on, reckon_read, reckon_list, reckoned_list, whole?, fitting?, folding?, head, folding_member, fold_on, fold_read, reckon_fold, reckoned_fold}
use Rattle.ground.specs.Worked.{Case, lists, folds, Right, starred}

-- ---- the statement

-- the case with what is reckoned in place of what it says
reckoned : Case → Case
reckoned (lists s allowance bytes sizes o) = lists s allowance bytes sizes (reckon_list s allowance bytes sizes)
reckoned (folds s row first member o) = folds s row first member (reckon_fold s row first member)

reckoned_right : (c : Case) → Right (reckoned c)
unfolding reckoned
reckoned_right (lists s allowance bytes sizes o) = reckoned_list s allowance bytes sizes
reckoned_right (folds s row first member o) = reckoned_fold s row first member

right : (t : List Case) → map reckoned t ≡ t → All Right t
right [] e = tt
right (c ∷ t) e = (subst Right (head-eq_of_cons-eq e) (reckoned_right c), right t (tail-eq_of_cons-eq e))

pub worked : All Right starred
unfolding reckoned job_sheet count checked byte two field many riser rule_that swap carrier allowed_pair nothing_more after is_in is_pair_in first_from all_new keeps_carrier keeps_pair mul identity room ℕ_discrete dec_lt mem? all_or row? three closed_or grown closure images members decided all? below? implies? order? listed? keeps? leading? opened_rows plans_of line lines_of reckon_on reckon_read reckon_list whole? fitting? folding? head folding_member fold_on fold_read reckon_fold
worked = right starred refl
