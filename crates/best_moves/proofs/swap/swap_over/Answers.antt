use Rattle.std.proofs.Common.{◌+◌, ◌-◌, arith, refl, length, sym, ◌∙◌}
use Rattle.std.proofs.lemmas.Bool.{false≢true}
use Rattle.best_moves.specs.Searched.{searched}
use Rattle.best_moves.proofs.PairRows.{swaps_past}
use Rattle.best_moves.proofs.Saved.{into_room, out_room, swap_most, swap_possible, swap_saved}
use Rattle.best_moves.proofs.Still.{swap_free}
use Rattle.best_moves.proofs.Found.{begun}
use Rattle.best_moves.proofs.Small.{begins, edge_at, edge_before, end_casts, four_fit, four_low, leaves_room, next_less, one_less, place_fits, place_room, row_end, row_some, three_fit, too_early, two_fit, wide_one, wide_some}
use Rattle.best_moves.proofs.swap.swap_over.Goals as goal

pub row-next-requires : goal.row-next-requires
row-next-requires g c = record { high = into_room (searched c.args.search.now) c.requires.search c.args.gathered.now c.requires.gathered (c.args.place + 1) c.requires.place.1 }

pub row-back-requires : goal.row-back-requires
row-back-requires g c = record { high = into_room (searched c.args.search.now) c.requires.search c.args.gathered.now c.requires.gathered c.args.place (next_less _ _ c.requires.place.1) }

pub returns-then-not-may_leave : goal.returns-then-not-may_leave
returns-then-not-may_leave g c =
    let q = searched c.args.search.now in
    let wide = c.requires.gathered.to.sized in
    swaps_past q c.requires.search c.args.place 1 (length c.args.gathered.now.to.now - 1) c.args.best.found (wide_one _ _ c.requires.gathered.to.sized)
    (λ k l h counts.
    let free = swap_free q c.requires.search c.args.place k c.requires.apart counts in
    absurd (false≢true (sym c.if-not-may_leave.true ∙ c.may_leave.ensures.1 (free.0, free.2))))
    c.requires.best

pub returns-then-lost-from : goal.returns-then-lost-from
returns-then-lost-from g c =
    let q = searched c.args.search.now in
    let a = c.args.gathered.now in
    let wide = c.requires.gathered.to.sized in
    let f = c.way_at.ensures.value in
    let f2 = c.way_at-2.ensures.value in
    let f3 = c.way_at-3.ensures.value in
    let f4 = c.way_at-4.ensures.value in
    let f5 = c.way_at-5.ensures.value in
    let f6 = c.way_at-6.ensures.value in
    let f7 = c.from.ensures in
    let test = c.if-lost-from.true in
    let bound = c.wanted-floor.ensures.value in
    swaps_past q c.requires.search c.args.place 1 (length a.to.now - 1) c.args.best.found (wide_one _ _ c.requires.gathered.to.sized)
    (λ at l h counts.
    let most = swap_most q c.requires.search a c.requires.gathered c.args.place at
    c.row-before.result.now c.row-here.result.now c.row-next.result.now c.row-back.result.now c.requires.apart c.requires.place.0 c.requires.place.1 l (place_room at _ h)
    c.row-before.ensures.cells c.row-here.ensures.cells c.row-next.ensures.cells c.row-back.ensures.cells in
    omega arith)
    c.requires.best

pub row-before-requires : goal.row-before-requires
row-before-requires g c = record { high = out_room (searched c.args.search.now) c.requires.search c.args.gathered.now c.requires.gathered (c.args.place - 1) (one_less _ _ c.requires.place.1) }

pub row-here-requires : goal.row-here-requires
row-here-requires g c = record { high = out_room (searched c.args.search.now) c.requires.search c.args.gathered.now c.requires.gathered c.args.place (next_less _ _ c.requires.place.1) }

pub may_leave-requires-clause-view : goal.may_leave-requires-clause-view
may_leave-requires-clause-view g c = c.requires.search.view

pub may_leave-requires-clause-v : goal.may_leave-requires-clause-v
may_leave-requires-clause-v g c = (c.requires.gathered.from.low, c.requires.gathered.from.high)

pub may_leave-requires-clause-low : goal.may_leave-requires-clause-low
may_leave-requires-clause-low g c = c.requires.place.0

pub may_leave-requires-clause-high : goal.may_leave-requires-clause-high
may_leave-requires-clause-high g c = leaves_room _ _ _ c.requires.place.1 c.requires.gathered.from.sized

pub first_free-begin-requires-clause-view : goal.first_free-begin-requires-clause-view
first_free-begin-requires-clause-view g c = c.requires.search.view

pub first_free-begin-requires-clause-v : goal.first_free-begin-requires-clause-v
first_free-begin-requires-clause-v g c = (c.requires.gathered.to.low, c.requires.gathered.to.high)

pub overflow_sub-index : goal.overflow_sub-index
overflow_sub-index g c = c.requires.place.0

pub way_at-requires : goal.way_at-requires
way_at-requires g c = edge_before _ _ _ c.requires.place.1 c.requires.gathered.from_edges.counted

pub way_at-requires-2 : goal.way_at-requires-2
way_at-requires-2 g c = edge_at _ _ _ c.requires.place.1 c.requires.gathered.from_edges.counted

pub overflow_add-lost : goal.overflow_add-lost
overflow_add-lost g c = two_fit _ _ c.way_at.ensures.small c.way_at-2.ensures.small

pub overflow_sub-index-2 : goal.overflow_sub-index-2
overflow_sub-index-2 g c = c.requires.place.0

pub overflow_add-index : goal.overflow_add-index
overflow_add-index g c = place_fits _ _ c.requires.place.1 c.requires.gathered.from.short

pub overflow_sub-end : goal.overflow_sub-end
overflow_sub-end g c = wide_some _ _ c.requires.gathered.to.sized

pub way_at-requires-3 : goal.way_at-requires-3
way_at-requires-3 g c = row_some _ _ _ c.row-before.ensures.sized c.requires.gathered.to.sized

pub way_at-requires-4 : goal.way_at-requires-4
way_at-requires-4 g c = row_some _ _ _ c.row-here.ensures.sized c.requires.gathered.to.sized

pub overflow_add-leaves : goal.overflow_add-leaves
overflow_add-leaves g c = two_fit _ _ c.way_at-3.ensures.small c.way_at-4.ensures.small

pub way_at-requires-5 : goal.way_at-requires-5
way_at-requires-5 g c = row_end _ _ _ c.row-next.ensures.sized c.requires.gathered.to.sized

pub overflow_add-least : goal.overflow_add-least
overflow_add-least g c = three_fit _ _ _ c.way_at-3.ensures.small c.way_at-4.ensures.small c.way_at-5.ensures.small

pub way_at-requires-6 : goal.way_at-requires-6
way_at-requires-6 g c = row_end _ _ _ c.row-back.ensures.sized c.requires.gathered.to.sized

pub overflow_add-least-2 : goal.overflow_add-least-2
overflow_add-least-2 g c = four_fit _ _ _ _ c.way_at-3.ensures.small c.way_at-4.ensures.small c.way_at-5.ensures.small c.way_at-6.ensures.small

pub wanted-floor-requires : goal.wanted-floor-requires
wanted-floor-requires g c = four_low _ _ _ _ c.way_at-3.ensures.small c.way_at-4.ensures.small c.way_at-5.ensures.small c.way_at-6.ensures.small

pub overflow_cast-end : goal.overflow_cast-end
overflow_cast-end g c = end_casts _ c.requires.gathered.to.short

pub best_of_row-requires-clause-candidates : goal.best_of_row-requires-clause-candidates
best_of_row-requires-clause-candidates g c =
    let q = searched c.args.search.now in
    let a = c.args.gathered.now in
    let f = c.way_at.ensures.value in
    let f2 = c.way_at-2.ensures.value in
    let begin = c.first_free-begin.ensures.value in
    λ at l h.
    let low = begun c.first_free-begin.result at (begins _ _ begin) l in
    let saved = swap_saved q c.requires.search a c.requires.gathered c.args.place at
    c.row-before.result.now c.row-here.result.now c.row-next.result.now c.row-back.result.now c.requires.apart c.requires.place.0 c.requires.place.1 low (place_room at _ h)
    c.row-before.ensures.cells c.row-here.ensures.cells c.row-next.ensures.cells c.row-back.ensures.cells in
    record {
      possible = swap_possible q c.requires.search a c.requires.gathered c.args.place at (λ e. absurd (c.requires.apart e)) c.requires.place.0 c.requires.place.1 low (place_room at _ h);
      near = (refl, refl, λ e. absurd (c.requires.apart e));
      saving = omega arith;
    }

pub best_of_row-requires-clause-ways : goal.best_of_row-requires-clause-ways
best_of_row-requires-clause-ways g c =
    let counted = c.requires.gathered.to_edges.counted in
    let before = c.row-before.ensures.sized in
    let here = c.row-here.ensures.sized in
    let next = c.row-next.ensures.sized in
    let back = c.row-back.ensures.sized in
    let begin = c.first_free-begin.ensures.value in
    λ k l h. (omega arith, record { edges = omega arith; before = omega arith; here = omega arith; next = omega arith; back = omega arith; most = c.requires.gathered.most })

pub best_of_row-requires-clause-best : goal.best_of_row-requires-clause-best
best_of_row-requires-clause-best g c =
    let q = searched c.args.search.now in
    swaps_past q c.requires.search c.args.place 1 c.first_free-begin.result c.args.best.found (begins _ _ c.first_free-begin.ensures.value)
    (λ k l h counts. absurd (too_early _ k c.first_free-begin.result (swap_free q c.requires.search c.args.place k c.requires.apart counts).1 h c.first_free-begin.ensures.value))
    c.requires.best

pub returns : goal.returns
returns g c = c.best_of_row.ensures
