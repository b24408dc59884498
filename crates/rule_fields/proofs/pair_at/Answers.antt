-- `pair_at` answers what the definition says of an allowed pair.
-- Assumes nothing.
use Rattle.std.proofs.Common.{rules}
use Rattle.fields.specs.Least.{both_listed}
use Rattle.rule_fields.proofs.pair_at.Goals as goal

pub returns : goal.returns
unfolding both_listed
returns c = c.pair_where.ensures (both_listed c.args.listed.now c.args.a c.args.b) (λ u v l m r k. search rules)
