use Rattle.std.proofs.Common.{length, rules, arith}
use Rattle.std.specs.Fmt.{decimal}
use Rattle.text.proofs.Decimal.{decimal_is}
use Rattle.text.proofs.Page.put_number.Goals as goal

pub returns-clause-put : goal.returns-clause-put
returns-clause-put c =
    let D = decimal_is c.args.n (omega arith) in
    record {
      count = length (decimal c.args.n);
      fewest = D.fewest;
      written = rw D.last (search rules);
    }
