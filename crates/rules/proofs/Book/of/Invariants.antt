-- `of` meets its contract. The pages of the risers passed are written (`Pages`), and a turn writes the next riser's.
-- Assumes nothing.
use Rattle.rules.specs.Writing.{Pages}
use Rattle.rules.proofs.Book.of.Given as goal

abbrev pub invariant-loop-d : goal.invariant-loop-d
invariant-loop-d l = Pages l.carriers l.tables l.d l.book
