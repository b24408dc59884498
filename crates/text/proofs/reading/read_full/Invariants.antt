-- What stands at the start of the list is what was read. Each turn leaves less room.
use Rattle.std.proofs.Common.{◌≤◌, ◌-◌, length, take}
use Rattle.std.specs.Io.KnownBytes.{Consumes}
use Rattle.text.proofs.reading.read_full.Given as goal

abbrev pub invariant-loop-count : goal.invariant-loop-count
invariant-loop-count g l = record { within : l.count ≤ length l.list; read : Consumes (g.R.Read.remaining l.initial.input) (g.R.Read.remaining l.input) (take l.count l.list) }

abbrev pub decreases-loop-count : goal.decreases-loop-count
decreases-loop-count g l = length l.list - l.count
