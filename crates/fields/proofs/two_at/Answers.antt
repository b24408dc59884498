-- `two_at` answers what the definition says of two bytes that are one field. Where either is missing the field is refused at its first byte.
-- Assumes nothing.
use Rattle.std.specs.Prelude.{◌≡◌, ◌≤◌, ◌<◌, ◌+◌, length, get_or}
use Rattle.std.proofs.Common.{rules, arith, ◌∙◌}
use Rattle.ground.specs.Meanings.Sheet.{fault, sheet_ends}
use Rattle.fields.specs.Answers.{passed}
use Rattle.fields.specs.Fields.{two_short, two_is}
use Rattle.fields.proofs.two_at.Goals as goal

pub returns-in_err-left : goal.returns-in_err-left
returns-in_err-left c =
    let l : length c.args.s.now ≤ c.args.at = search rules in
    let f : c.in_err-left.field-0.0 ≡ fault sheet_ends c.args.at = search rules in
    passed _ c.from_residual.ensures.1 ∙ two_short _ _ (omega arith) f

pub returns-in_err-right : goal.returns-in_err-right
returns-in_err-right c =
    let l : length c.args.s.now ≤ c.args.at + 1 = search rules in
    let f : c.in_err-right.field-0.0 ≡ fault sheet_ends c.args.at = search rules in
    passed _ c.from_residual-in_err-right.ensures.1 ∙ two_short _ _ l f

pub returns : goal.returns
returns c =
    let l : c.args.at + 1 < length c.args.s.now = search rules in
    let u : c.from.result ≡ get_or c.args.s.now c.args.at 0 = search rules in
    let v : c.from-2.result ≡ get_or c.args.s.now (c.args.at + 1) 0 = search rules in
    rw (u, v) (two_is _ _ l)
