use Rattle.std.proofs.Common.{◌≡◌, ℕ, ◌+◌, arith, subst, [], ◌∷◌, length}
use Rattle.plan_core.specs.Plan.{route_at}
use Rattle.best_moves.specs.Search.{IsBestSoFar}
use Rattle.best_moves.specs.Searched.{searched}
use Rattle.best_moves.proofs.Shifts.{shift_are, shifts_at, shifts_begin, shifts_end, shifts_left, shifts_row, shifts_row_done}
use Rattle.best_moves.proofs.Still.{shift_free}
use Rattle.best_moves.proofs.Small.{wide_some, width_casts}
use Rattle.best_moves.proofs.shift.best_shift.Goals as goal

pub loop-place-init : goal.loop-place-init
loop-place-init g c = shifts_begin (searched c.args.search.now) c.requires.search c.args.best.found c.requires.best

pub loop-count-init : goal.loop-count-init
loop-count-init g c = shifts_at (searched c.args.search.now) c.requires.search c.loop-place.place c.loop-place.best.found c.loop-place.invariant

pub shift_over-best-requires-clause-best : goal.shift_over-best-requires-clause-best
shift_over-best-requires-clause-best g c =
    shifts_row (searched c.args.search.now) c.requires.search c.loop-place.place c.loop-count.count c.loop-count.best.found c.loop-count.invariant

pub loop-count-preserved : goal.loop-count-preserved
loop-count-preserved g c =
    let wide = c.requires.gathered.to.sized in
    shifts_row_done (searched c.args.search.now) c.requires.search c.loop-place.place c.loop-count.count (length c.args.gathered.now.to.now) c.shift_over-best.result.found
    (λ e. absurd (c.requires.apart e)) (λ o. omega arith) c.shift_over-best.ensures

pub loop-place-preserved : goal.loop-place-preserved
loop-place-preserved g c =
    let q = searched c.args.search.now in
    shifts_left q c.requires.search c.loop-place.place c.loop-count.count c.loop-count.best.found
    (λ k a counts.
    let are = shift_are q c.requires.search c.loop-place.place k a counts in
    let free = shift_free q c.requires.search c.loop-place.place k a c.requires.apart counts in
    let most = c.loose_from-free.ensures.most k are.few are.fits (free.0, free.2) in
    let t = c.loop-count-test.false in
    omega arith)
    c.loop-count.invariant

pub returns : goal.returns
returns g c =
    let q = searched c.args.search.now in
    let lv = length (route_at q.view.routes q.v) in
    let e : c.loop-place.place ≡ lv + 1 = let t = c.loop-place-test.false in let h = c.loop-place.auto.place-end in let long = c.requires.gathered.from.sized in omega arith in
    shifts_end q c.requires.search c.loop-place.best.found
    (subst (λ (k : ℕ). IsBestSoFar q (1 ∷ q.v ∷ k ∷ []) c.loop-place.best.found) e c.loop-place.invariant)

pub overflow_cast-place-end : goal.overflow_cast-place-end
overflow_cast-place-end g c = width_casts _ c.requires.gathered.from.short

pub overflow_sub-place-end : goal.overflow_sub-place-end
overflow_sub-place-end g c = wide_some _ _ c.requires.gathered.from.sized

pub loose_from-free-requires-clause-view : goal.loose_from-free-requires-clause-view
loose_from-free-requires-clause-view g c = c.requires.search.view

pub loose_from-free-requires-clause-v : goal.loose_from-free-requires-clause-v
loose_from-free-requires-clause-v g c = (c.requires.gathered.from.low, c.requires.gathered.from.high)

pub loose_from-free-requires-clause-low : goal.loose_from-free-requires-clause-low
loose_from-free-requires-clause-low g c = c.loop-place.auto.place

pub shift_over-best-requires-clause-search : goal.shift_over-best-requires-clause-search
shift_over-best-requires-clause-search g c = c.requires.search

pub shift_over-best-requires-clause-gathered : goal.shift_over-best-requires-clause-gathered
shift_over-best-requires-clause-gathered g c = c.requires.gathered

pub shift_over-best-requires-clause-apart : goal.shift_over-best-requires-clause-apart
shift_over-best-requires-clause-apart g c = c.requires.apart

pub shift_over-best-requires-clause-count : goal.shift_over-best-requires-clause-count
shift_over-best-requires-clause-count g c = let t = c.loop-count-test.true in let few = c.loose_from-free.ensures.few in (c.loop-count.auto.count, omega arith)

pub shift_over-best-requires-clause-place : goal.shift_over-best-requires-clause-place
shift_over-best-requires-clause-place g c =
    let t = c.loop-count-test.true in
    let low = c.loop-count.auto.count in
    let sized = c.requires.gathered.from.sized in
    let fit = (c.loose_from-free.ensures.loose (omega arith)).0 in
    (c.loop-place.auto.place, omega arith)
