-- `read_swap` answers what the definition says of a swap. The tests 6, 7 and 8 come in that order, each made only where those before it have passed.
-- Assumes nothing.
use Rattle.std.proofs.Common.{◌∙◌}
use Rattle.fields.specs.Answers.{passed}
use Rattle.swap_tests.specs.Tests.{which_some, which_none}
use Rattle.swap_fields.specs.Swaps.{swap_short, six_is, swap_6, swap_7, swap_8, swap_is}
use Rattle.swap_fields.proofs.Before.read_swap.Goals as goal

pub returns-in_err-bytes : goal.returns-in_err-bytes
returns-in_err-bytes c = passed _ c.from_residual.ensures.1 ∙ swap_short _ _ _ _ _ _ _ c.in_err-bytes.ensures.0 c.in_err-bytes.ensures.1

pub returns-then-not-is_permutation : goal.returns-then-not-is_permutation
returns-then-not-is_permutation c =
    swap_6 _ _ _ _ _ _ _ c.in_ok-bytes.ensures.0 c.args.self.now.few (six_is _ _ _ c.in_ok-bytes.ensures.0 c.args.self.now.few _ c.in_ok-bytes.ensures.1 _ c.if-not-is_permutation.ensures) (cc)

pub returns-then-is_some : goal.returns-then-is_some
returns-then-is_some c =
    let b = c.in_ok-bytes.ensures in
    swap_7 _ _ _ _ _ _ _ b.0 c.args.self.now.few (six_is _ _ _ b.0 c.args.self.now.few _ b.1 _ c.if-not-is_permutation.ensures) _ b.1 _ c.padded_swap-g.ensures (which_some _ _ _ c.first_riser_out.ensures c.if-is_some.ensures) (cc)

pub returns-then-is_some-2 : goal.returns-then-is_some-2
returns-then-is_some-2 c =
    let b = c.in_ok-bytes.ensures in
    swap_8 _ _ _ _ _ _ _ b.0 c.args.self.now.few (six_is _ _ _ b.0 c.args.self.now.few _ b.1 _ c.if-not-is_permutation.ensures) _ b.1 _ c.padded_swap-g.ensures (which_none _ _ _ c.first_riser_out.ensures c.if-is_some.ensures) (which_some _ _ _ c.first_rule_out.ensures c.if-is_some-2.ensures) (cc)

pub returns : goal.returns
returns c =
    let b = c.in_ok-bytes.ensures in
    swap_is _ _ _ _ _ _ _ b.0 c.args.self.now.few (six_is _ _ _ b.0 c.args.self.now.few _ b.1 _ c.if-not-is_permutation.ensures) _ b.1 _ c.padded_swap-g.ensures (which_none _ _ _ c.first_riser_out.ensures c.if-is_some.ensures) (which_none _ _ _ c.first_rule_out.ensures c.if-is_some-2.ensures)
