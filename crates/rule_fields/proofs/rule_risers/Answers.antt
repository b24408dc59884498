-- `rule_risers` answers what the definition says of a rule's two risers.
-- Assumes nothing.
use Rattle.std.proofs.Common.{rules}
use Rattle.fields.specs.Least.{ordered}
use Rattle.rule_fields.proofs.rule_risers.Goals as goal

pub returns : goal.returns
unfolding ordered
returns c = c.pair_where.ensures (ordered c.args.n) (λ u v l m r k. search rules)
