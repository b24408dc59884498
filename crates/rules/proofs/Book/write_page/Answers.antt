-- `write_page` meets its contract: with the list and the rules of riser d, the book has a page more.
-- Assumes nothing.
use native.Mathlib.Omega.{arith}
use Rattle.rules.specs.Writing.{pages_more}
use Rattle.rules.proofs.Book.write_page.Goals as goal

pub returns : goal.returns
returns c pages = pages_more pages c.requires.0 c.requires.1 (omega arith) (omega arith) c.write_rules.result c.marked.ensures c.write_rules.ensures
