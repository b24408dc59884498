-- `carrier` and `riser` meet their contracts. The measure is the risers that remain: it falls at each call of the one by the other. At
-- the head of the carrier function's loop the carriers that are still to come are to be tried. What each owes at a call, what holds at the
-- loop's head and what follows at a return are laws over plain values (specs/Trying.antt).
-- Assumes nothing.
use Rattle.std.proofs.Common.{◌+◌, ◌-◌, ◌*◌}
use Rattle.search.specs.Trying.{Trying}
use Rattle.search.proofs.+carrier_riser.Given as goal

abbrev pub decreases-carrier : goal.decreases-carrier
decreases-carrier l = (l.limits.risers - l.d) * 2

abbrev pub decreases-riser : goal.decreases-riser
decreases-riser l = (l.limits.risers - (l.d + 1)) * 2 + 1

abbrev pub invariant-carrier-loop-c : goal.invariant-carrier-loop-c
invariant-carrier-loop-c l = Trying l.limits l.d l.tried l.level l.size l.book l.initial.path l.initial.rows l.initial.sizes l.c-iterator.0 l.path l.rows l.sizes
