-- `pair_where` answers what the definition says of a pair that passes a test, whichever test of pairs it is that the closure makes.
-- Assumes nothing.
use mathlib.Core.Path.{sym, ◌∙◌}
use Rattle.fields.specs.Answers.{passed}
use Rattle.rule_fields.specs.Rules.{two_small, pair_short, pair_fails, pair_early, pair_is}
use Rattle.rule_fields.proofs.pair_where.Goals as goal
use Rattle.rule_fields.proofs.pair_where.Goals.{then-not-test-via-then-not-test, then-not-test-via-else-not-test+then-key-least}

pub returns-in_err-left : goal.returns-in_err-left
returns-in_err-left g c = λ t h. passed _ c.from_residual.ensures.1 ∙ pair_short _ _ _ _ _ c.in_err-left.ensures

pub key-requires : goal.key-requires
key-requires g c = two_small _ _ c.type_inv.s c.in_ok-left.ensures

pub returns-then-not-test : goal.returns-then-not-test
returns-then-not-test g c = λ t h.
    let b = two_small _ _ c.type_inv.s c.in_ok-left.ensures in
    elim c.then-not-test.branch [
      | then-not-test-via-then-not-test w ↦ pair_fails _ _ _ _ _ c.in_ok-left.ensures (sym (h _ _ b.0 b.1 _ w.if-not-test.ensures)) c.at.ensures
      | then-not-test-via-else-not-test+then-key-least w ↦ pair_early _ _ _ _ _ c.in_ok-left.ensures (sym (h _ _ b.0 b.1 _ w.if-not-test.ensures)) (rw w.key.ensures at w.if-key-least.true) c.at.ensures
    ]

pub returns : goal.returns
returns g c = λ t h.
    let b = two_small _ _ c.type_inv.s c.in_ok-left.ensures in
    pair_is _ _ _ _ _ c.in_ok-left.ensures (sym (h _ _ b.0 b.1 _ c.if-not-test.ensures)) (rw c.key.ensures at c.if-key-least.false)
