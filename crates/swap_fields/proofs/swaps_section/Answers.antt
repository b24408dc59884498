-- `swaps_section` answers what the definition says of the swaps' section. It is the count, and then as many items.
-- Assumes nothing.
use Rattle.std.proofs.Common.{arith, refl}
use Rattle.fields.specs.Answers.{tell_section, tell_count, answer_passed, answer_refused, section_refused}
use Rattle.fields.specs.Fields.{count_most}
use Rattle.fields.specs.Sections.{section_no_count, section_no_item, section_is}
use Rattle.swap_fields.specs.Swaps.{front_read}
use Rattle.swap_fields.proofs.swaps_section.Goals as goal

pub returns-in_err-count : goal.returns-in_err-count
returns-in_err-count c = answer_passed tell_count _ c.from_residual.ensures.1 (section_no_count _ _ _ _ _ c.in_err-count.ensures)

pub slice_bounds-read_swaps-end : goal.slice_bounds-read_swaps-end
slice_bounds-read_swaps-end c = omega (arith, count_most _ _ _ _ c.in_ok-count.ensures)

pub returns-in_err-next : goal.returns-in_err-next
returns-in_err-next c =
    let read = front_read _ _ _ _ _ c.read_swaps.ensures (omega (arith, count_most _ _ _ _ c.in_ok-count.ensures)) in
    answer_passed tell_count _ c.from_residual-in_err-next.ensures.1 (section_no_item _ _ _ _ _ c.in_ok-count.ensures (answer_refused tell_section (section_refused read c.in_err-next.was)) refl)

pub returns : goal.returns
returns c = section_is _ _ _ _ _ c.in_ok-count.ensures (front_read _ _ _ _ _ c.read_swaps.ensures (omega (arith, count_most _ _ _ _ c.in_ok-count.ensures))) c.in_ok-next.was
