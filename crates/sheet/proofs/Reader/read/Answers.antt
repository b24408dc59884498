-- `Reader::read` answers what the definition says of the whole sheet: each section that is read takes the reader further, and each refusal
-- refuses the whole.
-- Assumes nothing.
use Rattle.std.proofs.Common.{subst, ◌≤◌, ℕ}
use Rattle.ground.specs.Meanings.Sheet.{most_risers}
use Rattle.sheet.specs.Steps.{carriers_to, carriers_out, risers_to, risers_out, rules_to, rules_out, swaps_to, swaps_out, end_to, end_out, handed_up}
use Rattle.sheet.proofs.Reader.read.Goals as goal

pub returns-in_err-carriers : goal.returns-in_err-carriers
returns-in_err-carriers c = handed_up (carriers_out c.args.self c.carriers.ensures c.in_err-carriers.was) c.from_residual.ensures.1

pub risers-requires : goal.risers-requires
risers-requires c = (carriers_to c.args.self c.carriers.ensures c.in_ok-carriers.was).1.few

pub returns-in_err-risers : goal.returns-in_err-risers
returns-in_err-risers c =
    let k = carriers_to c.args.self c.carriers.ensures c.in_ok-carriers.was in
    handed_up (risers_out k c.requires.says_nothing c.risers.ensures c.in_err-risers.was) c.from_residual-in_err-risers.ensures.1

pub rules-requires : goal.rules-requires
rules-requires c =
    let k = carriers_to c.args.self c.carriers.ensures c.in_ok-carriers.was in
    let n = (risers_to k c.requires.says_nothing c.risers.ensures c.in_ok-risers.was).1 in
    subst (λ (x : ℕ). x ≤ most_risers) n.number n.few

pub returns-in_err-rules : goal.returns-in_err-rules
returns-in_err-rules c =
    let k = carriers_to c.args.self c.carriers.ensures c.in_ok-carriers.was in
    let n = risers_to k c.requires.says_nothing c.risers.ensures c.in_ok-risers.was in
    handed_up (rules_out c.rules.new.tables n c.requires.says_nothing c.rules.ensures.counted c.in_err-rules.was) c.from_residual-in_err-rules.ensures.1

pub swaps-requires : goal.swaps-requires
swaps-requires c = (carriers_to c.args.self c.carriers.ensures c.in_ok-carriers.was).1.few

pub returns-in_err-count : goal.returns-in_err-count
returns-in_err-count c =
    let k = carriers_to c.args.self c.carriers.ensures c.in_ok-carriers.was in
    let n = risers_to k c.requires.says_nothing c.risers.ensures c.in_ok-risers.was in
    let m = rules_to c.rules.new.tables n c.requires.says_nothing c.rules.ensures.counted c.rules.ensures.same_lists c.in_ok-rules.was in
    handed_up (swaps_out m c.requires.all_stay c.swaps.ensures c.in_err-count.was) c.from_residual-in_err-count.ensures.1

pub returns-in_err-end : goal.returns-in_err-end
returns-in_err-end c =
    let k = carriers_to c.args.self c.carriers.ensures c.in_ok-carriers.was in
    let n = risers_to k c.requires.says_nothing c.risers.ensures c.in_ok-risers.was in
    let m = rules_to c.rules.new.tables n c.requires.says_nothing c.rules.ensures.counted c.rules.ensures.same_lists c.in_ok-rules.was in
    let l = swaps_to m c.requires.all_stay c.swaps.ensures c.in_ok-count.was in
    handed_up (end_out c.in_ok-count.reader l c.end.ensures c.in_err-end.was) c.from_residual-in_err-end.ensures.1

pub returns : goal.returns
returns c =
    let k = carriers_to c.args.self c.carriers.ensures c.in_ok-carriers.was in
    let n = risers_to k c.requires.says_nothing c.risers.ensures c.in_ok-risers.was in
    let m = rules_to c.rules.new.tables n c.requires.says_nothing c.rules.ensures.counted c.rules.ensures.same_lists c.in_ok-rules.was in
    let l = swaps_to m c.requires.all_stay c.swaps.ensures c.in_ok-count.was in
    end_to c.in_ok-count.reader l c.end.ensures c.in_ok-end.was
