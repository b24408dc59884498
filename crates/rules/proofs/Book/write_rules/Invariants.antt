-- `write_rules` meets its contract. The rules that start at the risers passed are written (`Written`), and a turn writes the one that
-- starts at the next riser, if there is one.
-- Assumes nothing.
use Rattle.rules.specs.Writing.{Written}
use Rattle.rules.proofs.Book.write_rules.Given as goal

abbrev pub invariant-loop-e : goal.invariant-loop-e
invariant-loop-e l = Written l.carriers l.tables l.d l.e l.rule l.initial.self l.self
