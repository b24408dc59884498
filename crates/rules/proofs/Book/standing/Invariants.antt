-- `standing` meets its contract. At the head of both loops the carriers that are left are those that go with the rules before the next
-- one (`Narrowed`), whichever carrier is looked at; a turn asks one rule more.
-- Assumes nothing.
use Prim.Native.Nat.{◌≤◌, ◌-◌}
use lib.ListN.{take}
use Rattle.rules.specs.Narrowing.{Narrowed}
use Rattle.rules.proofs.Book.standing.Given as goal

abbrev pub invariant-loop-rule : goal.invariant-loop-rule
invariant-loop-rule l = Narrowed l.self l.d (take l.d l.row) l.least l.rule l.«open» × (l.initial.rule ≤ l.rule)

abbrev pub decreases-loop-rule : goal.decreases-loop-rule
decreases-loop-rule l = l.last - l.rule

abbrev pub invariant-carriers : goal.invariant-carriers
invariant-carriers l = Narrowed l.self l.d (take l.d l.row) l.least l.rule l.«open»

abbrev pub decreases-carriers : goal.decreases-carriers
decreases-carriers l = l.last - l.rule
