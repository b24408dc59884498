-- `listing::list` meets its contract. The reader's tables serve the search, and what the search leaves settles the answer.
use Rattle.std.proofs.Common.{◌≡◌, refl, sym, ap, ◌∙◌, length, length-take-le, rules}
use Rattle.std.specs.Prelude.{Err}
use Rattle.listing.specs.declared.Refused.{Refused}
use Rattle.listing.specs.Settling.{Given, given, refuses, given_riser, given_swaps, ready, left_lists, refuses_it, not_the_sheet, settles}
use Rattle.listing.proofs.list.Goals as goal
use Rattle.listing.proofs.list.Goals.{In_ok-head}

-- where the sheet is accepted
accepted : (c : In_ok-head) → Given c.args.sheet.now c.in_ok-head.head c.read_sheet.new.tables c.read_sheet.new.swaps
accepted c = given c.in_ok-head.ensures refl

pub nonzero_div-bytes : goal.nonzero_div-bytes
nonzero_div-bytes c = given_riser (accepted (goal.at.nonzero_div-bytes c).In_ok-head)

pub slice_bounds-swaps-end : goal.slice_bounds-swaps-end
slice_bounds-swaps-end c = given_swaps (accepted (goal.at.slice_bounds-swaps-end c).In_ok-head)

pub slice_bounds-search-end : goal.slice_bounds-search-end
slice_bounds-search-end c = sym (length-take-le _ _ (given_swaps (accepted (goal.at.slice_bounds-search-end c).In_ok-head)))

pub search-searched-requires : goal.search-searched-requires
search-searched-requires c = ready (accepted (goal.at.search-searched-requires c).In_ok-head) _ _ _ refl refl c.min-room.ensures

pub returns-in_err-head : goal.returns-in_err-head
returns-in_err-head c =
    let e : c.from_residual.result ≡ Err (Refused.Sheet c.in_err-head.field-0.0) = search rules in
    record {
      lists = rw e (refuses c.in_err-head.ensures c.args.allowance c.args.bytes.now c.args.sizes.now refl);
      sheet = rw e (refuses_it c.in_err-head.ensures refl);
    }

pub returns : goal.returns
returns c =
    let searched = c.search-searched in
    let left = left_lists searched.result searched.new.rows searched.new.sizes in
    record {
      lists = settles _ _ _ _ _ (accepted (goal.at.returns c).In_ok-head) refl refl c.min-room.ensures searched.ensures (ap length left.0 ∙ searched.auto.rows) (ap length left.1 ∙ searched.auto.sizes) c.settle.ensures.settled;
      sheet = rw c.settle.ensures.answer (not_the_sheet _ searched.result c.min-room.result);
    }
