use Rattle.std.proofs.Common.{◌≡◌, ℕ, ◌*◌, length, ap, refl, arith}
use Rattle.ground.specs.Meanings.Sheet.{most_risers}
use Rattle.levels.proofs.Keeping.{next_still}
use Rattle.search.specs.Trying.{returned, Opening, opened_with, tried_none, tried_over, trying_more, before_riser, riser_wide, riser_fits, riser_room, next_asks, before_last, before_carrier, entered_stop, entered_none, entered_finished, entered_tried}
use Rattle.search.proofs.+carrier_riser.Goals as goal
use Rattle.search.proofs.+carrier_riser.Goals.{riser-After-from, riser-then-orbit-eq1, riser-else-orbit-eq1}

pub carrier-riser-requires : goal.carrier-riser-requires
carrier-riser-requires t c = (omega (arith, c.decreases, c.requires.fine.here.deep), before_riser c.requires (omega arith) c.loop-c.invariant c.in-Some.ensures.steps.0)

pub carrier-returns-in_err-riser : goal.carrier-returns-in_err-riser
carrier-returns-in_err-riser t c =
    let K = returned c.requires (omega arith) c.loop-c.invariant c.in-Some.ensures.steps.0 c.in_err-riser.ensures in
    rw c.from_residual.ensures.0 (tried_over K refl)

pub carrier-loop-c-preserved : goal.carrier-loop-c-preserved
carrier-loop-c-preserved t c =
    let K = returned c.requires (omega arith) c.loop-c.invariant c.in-Some.ensures.steps.0 c.in_ok-riser.ensures in
    trying_more K c.keep.ensures.goes c.keep.ensures.same refl c.in-Some.ensures.steps.1 c.riser.auto.rows c.riser.auto.sizes

pub carrier-returns : goal.carrier-returns
carrier-returns t c = tried_none c.requires (omega arith) c.loop-c.invariant c.in-None.ensures.steps.0

-- the place where the row with c is opened
opened : (t : ℕ) (c : riser-After-from t) → Opening c.args.limits c.args.d c.args.c c.args.level c.args.size c.args.book.now c.args.path.now c.if-orbit-eq1.path c.args.rows.now c.args.sizes.now c.from.result c.if-orbit-eq1.deep
opened t c =
    let Z = c.requires in
    let twelve : length c.args.path.now.row ≡ most_risers = omega arith in
    elim c.if-orbit-eq1.branch [
      | riser-then-orbit-eq1 w ↦ opened_with Z twelve c.in_ok-open.ensures.ok c.from.ensures (next_still (riser_room Z) Z.known (riser_wide Z) w.if-orbit-eq1.true) w.path-is w.deep-is
      | riser-else-orbit-eq1 w ↦ opened_with Z twelve c.in_ok-open.ensures.ok c.from.ensures w.hold_next-deep.ensures w.path-is w.deep-is
    ]

pub riser-returns-in_err-open : goal.riser-returns-in_err-open
riser-returns-in_err-open t c = rw c.from_residual.ensures.0 (entered_stop c.requires c.in_err-open.ensures.beyond)

pub riser-overflow_mul-whole : goal.riser-overflow_mul-whole
riser-overflow_mul-whole t c = omega (arith, riser_fits c.requires, ap (λ y. c.args.size * y) c.from.ensures)

pub riser-tried-mask-requires-clause-below : goal.riser-tried-mask-requires-clause-below
riser-tried-mask-requires-clause-below t c = next_asks (opened t (goal.at.riser-tried-mask-requires-clause-below t c).After-from)

pub riser-returns-then-mask-eq0 : goal.riser-returns-then-mask-eq0
riser-returns-then-mask-eq0 t c = entered_none (opened t (goal.at.riser-returns-then-mask-eq0 t c).After-from) c.tried-mask.ensures c.if-mask-eq0.true

pub riser-finish_at-requires-clause-ready : goal.riser-finish_at-requires-clause-ready
riser-finish_at-requires-clause-ready t c = before_last (opened t (goal.at.riser-finish_at-requires-clause-ready t c).After-from) c.tried-mask.ensures c.if-next-limits.true

pub riser-returns-then-next-limits : goal.riser-returns-then-next-limits
riser-returns-then-next-limits t c =
    let O = opened t (goal.at.riser-returns-then-next-limits t c).After-from in
    entered_finished O c.tried-mask.ensures c.if-next-limits.true c.finish_at.ensures.same c.finish_at.ensures.done

pub riser-carrier-requires : goal.riser-carrier-requires
riser-carrier-requires t c =
    let O = opened t (goal.at.riser-carrier-requires t c).After-from in
    (omega (arith, c.decreases), before_carrier O c.tried-mask.ensures c.if-next-limits.false)

pub riser-returns : goal.riser-returns
riser-returns t c = entered_tried (opened t (goal.at.riser-returns t c).After-from) c.carrier.ensures
