-- `count_at` answers what the definition says of a count. The number under one more than the most is the count.
-- Assumes nothing.
use mathlib.Core.Path.{ap, ◌∙◌}
use Rattle.fields.specs.Answers.{tell_number}
use Rattle.fields.specs.Fields.{count_is}
use Rattle.fields.proofs.count_at.Goals as goal

pub returns : goal.returns
returns c = c.number_at.ensures ∙ ap tell_number (count_is _ _ _ _)
