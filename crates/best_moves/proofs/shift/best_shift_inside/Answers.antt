use Rattle.std.proofs.Common.{◌≡◌, ℕ, ◌+◌, ◌-◌, arith, subst, [], ◌∷◌, length}
use Rattle.plan_core.specs.Plan.{route_at}
use Rattle.best_moves.specs.Search.{IsBestSoFar}
use Rattle.best_moves.specs.Searched.{searched}
use Rattle.best_moves.proofs.Saved.{same_stops}
use Rattle.best_moves.proofs.Shifts.{shift_are, shifts_at, shifts_begin, shifts_end, shifts_left, shifts_row, shifts_row_done}
use Rattle.best_moves.proofs.Small.{wide_some, width_casts}
use Rattle.best_moves.proofs.shift.best_shift_inside.Goals as goal

pub loop-place-init : goal.loop-place-init
loop-place-init g c = shifts_begin (searched c.args.search.now) c.requires.search c.args.best.found c.requires.best

pub loop-count-init : goal.loop-count-init
loop-count-init g c = shifts_at (searched c.args.search.now) c.requires.search c.loop-place.place c.loop-place.best.found c.loop-place.invariant

pub shift_within-best-requires-clause-best : goal.shift_within-best-requires-clause-best
shift_within-best-requires-clause-best g c =
    shifts_row (searched c.args.search.now) c.requires.search c.loop-place.place c.loop-count.count c.loop-count.best.found c.loop-count.invariant

pub loop-count-preserved : goal.loop-count-preserved
loop-count-preserved g c =
    let q = searched c.args.search.now in
    let long = c.requires.gathered.from.sized in
    let same = same_stops q c.requires.search c.args.gathered.now c.requires.gathered c.requires.inside in
    let wide = rw same at c.requires.gathered.to.sized in
    let few = c.loop-count-test.true in
    let most = c.min-most.ensures in
    shifts_row_done q c.requires.search c.loop-place.place c.loop-count.count (length c.args.gathered.now.from.now - c.loop-count.count) c.shift_within-best.result.found
    (λ e. omega arith) (λ o. absurd (o c.requires.inside)) c.shift_within-best.ensures

pub loop-place-preserved : goal.loop-place-preserved
loop-place-preserved g c =
    let q = searched c.args.search.now in
    shifts_left q c.requires.search c.loop-place.place c.loop-count.count c.loop-count.best.found
    (λ k a counts.
    let are = shift_are q c.requires.search c.loop-place.place k a counts in
    let fits = are.fits in
    let few = are.few in
    let long = c.requires.gathered.from.sized in
    let most = c.min-most.ensures in
    let t = c.loop-count-test.false in
    omega arith)
    c.loop-count.invariant

pub returns : goal.returns
returns g c =
    let q = searched c.args.search.now in
    let lv = length (route_at q.view.routes q.v) in
    let e : c.loop-place.place ≡ lv + 1 = let t = c.loop-place-test.false in let h = c.loop-place.auto.place-end in let long = c.requires.gathered.from.sized in omega arith in
    shifts_end q c.requires.search c.loop-place.best.found
    (subst (λ (k : ℕ). IsBestSoFar q (1 ∷ q.v ∷ k ∷ []) c.loop-place.best.found) e c.loop-place.invariant)

pub overflow_cast-end : goal.overflow_cast-end
overflow_cast-end g c = width_casts _ c.requires.gathered.from.short

pub overflow_sub-end : goal.overflow_sub-end
overflow_sub-end g c = wide_some _ _ c.requires.gathered.from.sized

pub shift_within-best-requires-clause-search : goal.shift_within-best-requires-clause-search
shift_within-best-requires-clause-search g c = c.requires.search

pub shift_within-best-requires-clause-gathered : goal.shift_within-best-requires-clause-gathered
shift_within-best-requires-clause-gathered g c = c.requires.gathered

pub shift_within-best-requires-clause-inside : goal.shift_within-best-requires-clause-inside
shift_within-best-requires-clause-inside g c = c.requires.inside

pub shift_within-best-requires-clause-count : goal.shift_within-best-requires-clause-count
shift_within-best-requires-clause-count g c = let t = c.loop-count-test.true in let most = c.min-most.ensures in (c.loop-count.auto.count, omega arith)

pub shift_within-best-requires-clause-place : goal.shift_within-best-requires-clause-place
shift_within-best-requires-clause-place g c = let t = c.loop-count-test.true in let most = c.min-most.ensures in (c.loop-place.auto.place, omega arith)
