use Rattle.std.proofs.Common.{arith}
use Rattle.std.proofs.lemmas.Grind.{common_steps}
use Rattle.rules.specs.Writing.{written_none, written_more}
use Rattle.rules.proofs.Book.write_rules.Goals.{in-Some, in_default}
use Rattle.rules.proofs.Book.write_rules.Goals as goal

pub loop-e-preserved : goal.loop-e-preserved
loop-e-preserved c =
    elim c.match-checked_sub.branch [
      | in-Some w ↦ rw (w.self-is, w.rule-is) (written_more c.loop-e.invariant c.requires.0 (omega arith) (grind (arith, common_steps)) w.write_masks.ensures)
      | in_default w ↦ rw (w.self-is, w.rule-is) (written_none c.loop-e.invariant (grind (arith, common_steps)))
    ]
