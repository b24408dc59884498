-- `write_masks` meets its contract. The masks of the carriers passed are written, and a turn writes the next one.
-- Assumes nothing.
use Prim.Native.Nat.{ℕ, ◌+◌, ◌*◌, ◌<◌}
use Rattle.ground.specs.Meanings.Group.{at}
use Rattle.ground.specs.Meanings.Sheet.{most_carriers, most_pairs}
use Rattle.masks.specs.Masks.{Marked}
use Rattle.rules.proofs.Book.write_masks.Given as goal

abbrev pub invariant-loop-u : goal.invariant-loop-u
invariant-loop-u l = (v : ℕ) → v < l.u → Marked l.tables.allowed (l.q * most_pairs + v * most_carriers) l.carriers (at l.mask-items v)
