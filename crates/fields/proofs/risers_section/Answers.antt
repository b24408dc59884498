-- `risers_section` answers what the definition says of the risers' section. It is the count, and then as many items.
-- Assumes nothing.
use Rattle.std.proofs.Common.{arith}
use Rattle.fields.specs.Answers.{tell_count, answer_passed}
use Rattle.fields.specs.Fields.{count_most}
use Rattle.fields.specs.Sections.{section_no_count, section_no_item, section_is}
use Rattle.fields.proofs.risers_section.Goals as goal

pub returns-in_err-risers : goal.returns-in_err-risers
returns-in_err-risers c = answer_passed tell_count _ c.from_residual.ensures.1 (section_no_count _ _ _ _ _ c.in_err-risers.ensures)

pub read_lists-requires : goal.read_lists-requires
read_lists-requires c = (c.requires, omega (arith, count_most _ _ _ _ c.in_ok-risers.ensures))

pub returns-in_err-next : goal.returns-in_err-next
returns-in_err-next c = answer_passed tell_count _ c.from_residual-in_err-next.ensures.1 (section_no_item _ _ _ _ _ c.in_ok-risers.ensures c.read_lists.ensures c.in_err-next.was)

pub returns : goal.returns
returns c = section_is _ _ _ _ _ c.in_ok-risers.ensures c.read_lists.ensures c.in_ok-next.was
