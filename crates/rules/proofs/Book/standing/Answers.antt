use native.Mathlib.Omega.{arith}
use Rattle.rules.specs.Narrowing.{narrowed_askable, narrowed_asked, narrowed_whole, narrowed_none}
use Rattle.rules.proofs.Book.standing.Goals as goal

pub left_by-left-requires : goal.left_by-left-requires
left_by-left-requires c = narrowed_askable c.args.row.now c.requires.orderly c.loop-rule.invariant.0 (omega arith) (omega arith) (omega arith) c.requires.below.1

pub carriers-preserved : goal.carriers-preserved
carriers-preserved c = narrowed_asked c.args.row.now c.requires.orderly c.loop-rule.invariant.0 (omega arith) c.left_by-left.ensures c.both-open-in-loop-rule.ensures

pub loop-rule-preserved : goal.loop-rule-preserved
loop-rule-preserved c = (narrowed_asked c.args.row.now c.requires.orderly c.loop-rule.invariant.0 (omega arith) c.left_by-left.ensures c.both-open-in-loop-rule.ensures, omega arith)

pub returns-in-carriers : goal.returns-in-carriers
returns-in-carriers c = narrowed_whole c.args.row.now c.loop-rule.invariant.0 (omega arith) (omega arith)

pub returns : goal.returns
returns c = narrowed_none c.args.row.now c.carriers.invariant (omega arith) c.carriers-test.false
