-- `read_sheet` answers what the definition says of the sheet, by a reader at its first byte, and its tables serve the sheet or are blank.
-- Assumes nothing.
use Rattle.std.proofs.Common.{sym, rules, ◌∙◌}
use Rattle.sheet.specs.Whole.{reads_accepted, reads_refused}
use Rattle.sheet.proofs.read_sheet.Goals as goal

pub returns-then-is_err : goal.returns-then-is_err
returns-then-is_err c = reads_refused (rw (c.new.ensures.0, c.new.ensures.1) at c.read-answer.ensures) (sym c.is_err.ensures.value ∙ c.if-is_err.true) (search rules)

pub returns-else-is_err : goal.returns-else-is_err
returns-else-is_err c = reads_accepted (rw (c.new.ensures.0, c.new.ensures.1) at c.read-answer.ensures) (sym c.is_err.ensures.value ∙ c.if-is_err.false)
