-- `is_permutation` answers whether the bytes are a permutation of 0 to k − 1, for their number k, at most 15. Each byte that
-- the loop passes is below k and unmarked, so that it is new, and the first that is not ends the test with no.
use Rattle.swaps.specs.Marking.{Tested}
use Rattle.swaps.proofs.is_permutation.Given as goal

abbrev pub invariant-loop-c : goal.invariant-loop-c
invariant-loop-c l = Tested 15 l.bytes l.stood l.c-index
