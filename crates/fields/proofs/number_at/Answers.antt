-- `number_at` answers what the definition says of a byte in bounds. Each return is one case of the test, and the byte is the slice's own.
-- Assumes nothing.
use Rattle.std.specs.Prelude.{◌≡◌, ◌≤◌, ◌<◌, length, get_or}
use Rattle.std.proofs.Common.{rules, ◌∙◌, inl, inr}
use Rattle.ground.specs.Meanings.Sheet.{fault, sheet_ends}
use Rattle.fields.specs.Answers.{passed}
use Rattle.fields.specs.Fields.{number_short, number_low, number_high, number_is}
use Rattle.fields.proofs.number_at.Goals as goal

pub returns-in_err-ok_or : goal.returns-in_err-ok_or
returns-in_err-ok_or c =
    let l : length c.args.s.now ≤ c.args.at = search rules in
    let f : c.in_err-ok_or.field-0.0 ≡ fault sheet_ends c.args.at = search rules in
    passed _ c.from_residual.ensures.1 ∙ number_short _ _ _ _ _ l f

pub returns-then-value-least : goal.returns-then-value-least
returns-then-value-least c =
    let l : c.args.at < length c.args.s.now = search rules in
    let v : c.from-value.result ≡ get_or c.args.s.now c.args.at 0 = search rules in
    elim c.then-value-least.either [
      | inl h ↦ number_low _ _ _ _ _ l (rw (← v) h) c.at-then-value-least.ensures
      | inr h ↦ number_high _ _ _ _ _ l (rw (← v) h.0) (rw (← v) h.1) c.at-then-value-least.ensures
    ]

pub returns : goal.returns
returns c =
    let l : c.args.at < length c.args.s.now = search rules in
    let v : c.from-value.result ≡ get_or c.args.s.now c.args.at 0 = search rules in
    rw v (number_is _ _ _ _ _ l (rw (← v) c.if-value-least.false) (rw (← v) c.if-bound-value.false))
