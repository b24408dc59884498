-- `read_riser` answers what the definition says of a riser. It is the count, and then the list that the count asks for.
-- Assumes nothing.
use Rattle.fields.specs.Answers.{tell_section, answer_passed}
use Rattle.fields.specs.Risers.{riser_refused, riser_read}
use Rattle.fields.proofs.read_riser.Goals as goal

pub returns-in_err-d : goal.returns-in_err-d
returns-in_err-d c = answer_passed tell_section _ c.from_residual.ensures.1 (riser_refused _ _ _ c.in_err-d.ensures)

pub returns : goal.returns
returns c = riser_read _ _ _ c.in_ok-d.ensures c.read_list.ensures
