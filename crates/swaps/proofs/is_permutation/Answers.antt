use native.Mathlib.Omega.{arith}
use Rattle.std.proofs.Common.{inl, inr}
use Rattle.swaps.specs.Marking.{tested_start, tested_out, tested_more, tested_end}
use Rattle.swaps.proofs.is_permutation.Goals as goal
use Rattle.swaps.proofs.is_permutation.Goals.{then-k-c-via-then-k-c, then-k-c-via-else-k-c+then-stood-c}

pub loop-c-init : goal.loop-c-init
loop-c-init c = tested_start 15 _ (omega arith)

pub returns-then-k-c : goal.returns-then-k-c
returns-then-k-c c =
    elim c.then-k-c.branch [
      | then-k-c-via-then-k-c w ↦ tested_out c.loop-c.invariant c.loop-c-test.true (inl (rw (← c.from-c.ensures) w.if-k-c.true))
      | then-k-c-via-else-k-c+then-stood-c w ↦ tested_out c.loop-c.invariant c.loop-c-test.true (inr (rw (← c.from-c.ensures) w.if-stood-c.true))
    ]

pub loop-c-preserved : goal.loop-c-preserved
loop-c-preserved c =
    let e = c.from-c.ensures in
    rw e (tested_more c.loop-c.invariant c.loop-c-test.true (rw (← e) c.if-k-c.false) (rw (← e) c.if-stood-c.false))

pub returns : goal.returns
returns c = tested_end c.loop-c.invariant c.loop-c-test.false
