use native.Mathlib.Omega.{arith}
use Rattle.fields.specs.Answers.{tell_section, answer_passed}
use Rattle.rule_fields.specs.Rules.{pairs_start, pairs_more, pairs_refused, pairs_end, pair_small}
use Rattle.rule_fields.proofs.read_pairs.Goals as goal

pub loop-init : goal.loop-init
loop-init c = pairs_start _ _ _ _ _ _ _ _

pub returns-in_err-u : goal.returns-in_err-u
returns-in_err-u c = answer_passed tell_section _ c.from_residual.ensures.1 (pairs_refused _ _ _ _ _ _ _ _ _ _ _ _ c.loop.invariant c.loop-test.true c.in_err-u.ensures)

pub key-key-requires : goal.key-key-requires
key-key-requires c = let h = pair_small _ _ _ _ _ _ c.in_ok-u.ensures in (omega arith, omega arith)

pub overflow_add-allowed : goal.overflow_add-allowed
overflow_add-allowed c = let h = pair_small _ _ _ _ _ _ c.in_ok-u.ensures in omega (arith, c.requires, c.key-key.ensures)

pub bounds-allowed-q : goal.bounds-allowed-q
bounds-allowed-q c = let h = pair_small _ _ _ _ _ _ c.in_ok-u.ensures in omega (arith, c.requires, c.key-key.ensures)

pub overflow_add-least : goal.overflow_add-least
overflow_add-least c = let h = pair_small _ _ _ _ _ _ c.in_ok-u.ensures in omega (arith, c.requires, c.key-key.ensures)

pub loop-preserved : goal.loop-preserved
loop-preserved c = rw c.key-key.ensures (pairs_more _ _ _ _ _ _ _ _ _ _ _ _ c.loop.invariant c.loop-test.true c.in_ok-u.ensures)

pub returns : goal.returns
returns c = pairs_end _ _ _ _ _ _ _ _ _ _ _ _ c.loop.invariant c.loop-test.false
