use Rattle.std.proofs.Common.{◌≡◌, ℕ, ◌+◌, ◌-◌, ap, arith, subst, [], ◌∷◌, length, refl, slice_index}
use Rattle.way_costs.specs.Ways.{hop}
use Rattle.best_moves.specs.Search.{IsBestSoFar}
use Rattle.best_moves.specs.Searched.{searched, costs_of}
use Rattle.best_moves.proofs.Saved.{out_room, shift_most, shift_saved, into_room, shift_possible}
use Rattle.best_moves.proofs.Shifts.{shifts_past}
use Rattle.best_moves.proofs.Still.{shift_free}
use Rattle.best_moves.proofs.Small.{after_low, before_after, before_first, count_fits, count_last, count_less, gap_order, row_end, row_some, too_early, two_fit, two_low, two_more_fit, two_more_low, wide_some, width_casts}
use Rattle.best_moves.proofs.shift.shift_over.Goals as goal

pub row-goes-requires : goal.row-goes-requires
row-goes-requires g c = record { high = out_room (searched c.args.search.now) c.requires.search c.args.gathered.now c.requires.gathered (c.args.place + c.args.count - 1) (count_last _ _ _ c.requires.place.1) }

pub returns-then-reach-floor : goal.returns-then-reach-floor
returns-then-reach-floor g c =
    let q = searched c.args.search.now in
    let a = c.args.gathered.now in
    let wide = c.requires.gathered.to.sized in
    let f = c.from.ensures in
    let f2 = c.from-2.ensures in
    let f3 = c.from-3.ensures in
    let f4 = c.way_at.ensures.value in
    let f5 = c.way_at-2.ensures.value in
    let test = c.if-reach-floor.true in
    let bound = c.wanted-floor.ensures.value in
    shifts_past q c.requires.search c.args.place c.args.count 1 (length a.to.now) c.args.best.found (wide_some _ _ c.requires.gathered.to.sized)
    (λ at l h counts.
    let most = shift_most q c.requires.search a c.requires.gathered c.args.place c.args.count at (hop (costs_of q) (slice_index a.from.now (c.args.place - 1)) (slice_index a.from.now (c.args.place + c.args.count)))
    c.row-comes.result.now c.row-goes.result.now c.requires.apart c.requires.place.0 c.requires.count.0 c.requires.place.1 l h c.row-comes.ensures.cells c.row-goes.ensures.cells refl in
    omega arith)
    c.requires.best

pub returns-then-reach-higher : goal.returns-then-reach-higher
returns-then-reach-higher g c =
    let q = searched c.args.search.now in
    let a = c.args.gathered.now in
    let wide = c.requires.gathered.to.sized in
    let f = c.from.ensures in
    let f2 = c.from-2.ensures in
    let f3 = c.from-3.ensures in
    let f4 = c.way_at.ensures.value in
    let f5 = c.way_at-2.ensures.value in
    let test = c.if-reach-higher.true in
    let bound = c.wanted-higher.ensures.value in
    shifts_past q c.requires.search c.args.place c.args.count 1 (length a.to.now) c.args.best.found (wide_some _ _ c.requires.gathered.to.sized)
    (λ at l h counts.
    let most = shift_most q c.requires.search a c.requires.gathered c.args.place c.args.count at c.closing-gained.result
    c.row-comes.result.now c.row-goes.result.now c.requires.apart c.requires.place.0 c.requires.count.0 c.requires.place.1 l h c.row-comes.ensures.cells c.row-goes.ensures.cells c.closing-gained.ensures.value in
    omega arith)
    c.requires.best

pub row-comes-requires : goal.row-comes-requires
row-comes-requires g c = record { high = into_room (searched c.args.search.now) c.requires.search c.args.gathered.now c.requires.gathered c.args.place (count_less _ _ _ c.requires.place.1) }

pub overflow_add-after : goal.overflow_add-after
overflow_add-after g c = count_fits c.args.place c.args.count _ c.requires.place.1 c.requires.gathered.from.short

pub overflow_sub-first : goal.overflow_sub-first
overflow_sub-first g c = c.requires.place.0

pub bounds-from_edges-first : goal.bounds-from_edges-first
bounds-from_edges-first g c = before_first c.args.place c.args.count _ _ c.requires.place.0 c.requires.place.1 c.requires.gathered.from_edges.counted

pub overflow_sub-after : goal.overflow_sub-after
overflow_sub-after g c = after_low c.args.place c.args.count c.requires.place.0

pub bounds-from_edges-after : goal.bounds-from_edges-after
bounds-from_edges-after g c = before_after c.args.place c.args.count _ _ c.requires.place.0 c.requires.place.1 c.requires.gathered.from_edges.counted

pub overflow_sub-after-2 : goal.overflow_sub-after-2
overflow_sub-after-2 g c = after_low c.args.place c.args.count c.requires.place.0

pub way_at-requires : goal.way_at-requires
way_at-requires g c = row_some _ _ _ c.row-goes.ensures.sized c.requires.gathered.to.sized

pub overflow_sub-width : goal.overflow_sub-width
overflow_sub-width g c = wide_some _ _ c.requires.gathered.to.sized

pub way_at-requires-2 : goal.way_at-requires-2
way_at-requires-2 g c = row_end _ _ _ c.row-comes.ensures.sized c.requires.gathered.to.sized

pub overflow_add-least : goal.overflow_add-least
overflow_add-least g c = two_fit _ _ c.way_at.ensures.small c.way_at-2.ensures.small

pub wanted-floor-requires : goal.wanted-floor-requires
wanted-floor-requires g c = two_low _ _ c.way_at.ensures.small c.way_at-2.ensures.small

pub first_free-begin-requires-clause-view : goal.first_free-begin-requires-clause-view
first_free-begin-requires-clause-view g c = c.requires.search.view

pub first_free-begin-requires-clause-v : goal.first_free-begin-requires-clause-v
first_free-begin-requires-clause-v g c = (c.requires.gathered.to.low, c.requires.gathered.to.high)

pub overflow_sub-first-2 : goal.overflow_sub-first-2
overflow_sub-first-2 g c = c.requires.place.0

pub closing-gained-requires-clause-gathered : goal.closing-gained-requires-clause-gathered
closing-gained-requires-clause-gathered g c = c.requires.gathered

pub closing-gained-requires-clause-order : goal.closing-gained-requires-clause-order
closing-gained-requires-clause-order g c = gap_order c.args.place c.args.count c.requires.place.0

pub closing-gained-requires-clause-after : goal.closing-gained-requires-clause-after
closing-gained-requires-clause-after g c = c.requires.place.1

pub overflow_add-least-2 : goal.overflow_add-least-2
overflow_add-least-2 g c = two_more_fit _ _ _ c.way_at.ensures.small c.way_at-2.ensures.small c.closing-gained.ensures.small

pub wanted-higher-requires : goal.wanted-higher-requires
wanted-higher-requires g c = two_more_low _ _ _ c.way_at.ensures.small c.way_at-2.ensures.small c.closing-gained.ensures.small

pub overflow_cast-width : goal.overflow_cast-width
overflow_cast-width g c = width_casts _ c.requires.gathered.to.short

pub best_of_row-requires-clause-candidates : goal.best_of_row-requires-clause-candidates
best_of_row-requires-clause-candidates g c =
    let q = searched c.args.search.now in
    let a = c.args.gathered.now in
    let wide = c.requires.gathered.to.sized in
    let f = c.from.ensures in
    let f2 = c.from-2.ensures in
    λ k l h.
    let e : k - 0 + 1 + 0 - 1 ≡ k = omega arith in
    let e2 : k - 0 + 1 + 0 ≡ k + 1 = omega arith in
    let edge = ap (λ (n : ℕ). slice_index a.to_edges.now n) e in
    let comes = ap (λ (n : ℕ). slice_index c.row-comes.result.now n) e in
    let goes = ap (λ (n : ℕ). slice_index c.row-goes.result.now n) e2 in
    let saved = shift_saved q c.requires.search a c.requires.gathered c.args.place c.args.count (k - 0 + 1) c.closing-gained.result
    c.row-comes.result.now c.row-goes.result.now c.requires.apart c.requires.place.0 c.requires.count.0 c.requires.place.1 (omega arith) (omega arith) c.row-comes.ensures.cells c.row-goes.ensures.cells c.closing-gained.ensures.value in
    record {
      possible = shift_possible q c.requires.search a c.requires.gathered c.args.place c.args.count (k - 0 + 1) c.requires.apart c.requires.place.0 c.requires.count.0 c.requires.place.1 (omega arith) (omega arith);
      near = (refl, refl, c.requires.count.1);
      saving = omega arith;
    }

pub best_of_row-requires-clause-best : goal.best_of_row-requires-clause-best
best_of_row-requires-clause-best g c =
    let q = searched c.args.search.now in
    let begin = c.first_free-begin.ensures.value in
    shifts_past q c.requires.search c.args.place c.args.count 1 (c.first_free-begin.result - 1 - 0 + 1) c.args.best.found (omega arith)
    (λ k l h counts. absurd (too_early _ k c.first_free-begin.result (shift_free q c.requires.search c.args.place c.args.count k c.requires.apart counts).1 (omega arith) begin))
    c.requires.best

pub best_of_row-requires-clause-ways : goal.best_of_row-requires-clause-ways
best_of_row-requires-clause-ways g c =
    let wide = c.requires.gathered.to.sized in
    let counted = c.requires.gathered.to_edges.counted in
    let to = c.row-comes.ensures.sized in
    let on = c.row-goes.ensures.sized in
    λ k l h. record { edges = omega arith; to = omega arith; on = omega arith; most = c.requires.gathered.most }

pub returns : goal.returns
returns g c =
    let wide = c.requires.gathered.to.sized in
    let e : length c.args.gathered.now.to.now - 1 - 0 + 1 ≡ length c.args.gathered.now.to.now = omega arith in
    subst (λ (n : ℕ). IsBestSoFar (searched c.args.search.now) (1 ∷ c.args.search.now.v ∷ c.args.place ∷ c.args.count ∷ c.args.search.now.w ∷ n ∷ []) c.best_of_row.result.found) e c.best_of_row.ensures
