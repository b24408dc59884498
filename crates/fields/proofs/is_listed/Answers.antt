-- `is_listed` answers what the table says. Past the last riser or the last carrier there is no entry, and the answer is no.
-- Assumes nothing.
use Rattle.std.proofs.Common.{arith}
use Rattle.std.proofs.lemmas.Grind.{common_steps}
use Rattle.fields.specs.Risers.{listed_in, listed_no_carrier, listed_no_riser}
use Rattle.fields.proofs.is_listed.Goals as goal

pub returns-then-c-lt-CARRIERS : goal.returns-then-c-lt-CARRIERS
returns-then-c-lt-CARRIERS c = listed_in _ _ _ c.if-c-lt-CARRIERS.true.0 c.if-c-lt-CARRIERS.true.1

pub returns-else-c-lt-CARRIERS : goal.returns-else-c-lt-CARRIERS
returns-else-c-lt-CARRIERS c = grind (arith, common_steps, listed_no_carrier, listed_no_riser)
