-- `Reader::end` answers what the definition says of the end.
-- Assumes nothing.
use Rattle.std.proofs.Common.{rules}
use Rattle.ground.specs.Meanings.Sheet.{nothing_more}
use Rattle.sheet.proofs.Reader.end.Goals as goal

pub returns-then-self : goal.returns-then-self
unfolding nothing_more
returns-then-self c = search rules

pub returns : goal.returns
unfolding nothing_more
returns c = search rules
