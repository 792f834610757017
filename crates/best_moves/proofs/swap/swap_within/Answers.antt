use Rattle.std.proofs.Common.{◌+◌, ◌-◌, arith, [], ◌∷◌, length, refl}
use Rattle.best_moves.specs.Searched.{searched}
use Rattle.best_moves.proofs.PairRows.{swap_beside, swaps_past}
use Rattle.best_moves.proofs.Saved.{edges_inside, into_room_inside, next_saved, out_room_inside, swap_inside_possible, swap_inside_saved}
use Rattle.best_moves.proofs.Still.{swap_inside_free}
use Rattle.best_moves.proofs.Found.{above, same}
use Rattle.best_moves.proofs.Small.{count_fits, edge_two_at, edge_two_before, edge_two_next, next_casts, next_less, next_order, one_less, place_fits, place_room, row_has, row_two_next, three_fit, three_low, too_early, two_apart, two_behind, two_casts, two_fit, two_next_fits, two_one, wide_some, width_casts}
use Rattle.best_moves.proofs.swap.swap_within.Goals as goal

pub returns-then-place-first_free : goal.returns-then-place-first_free
returns-then-place-first_free g c =
    let q = searched c.args.search.now in
    swaps_past q c.requires.search c.args.place (c.args.place + 1) (length c.args.gathered.now.from.now - 1) c.args.best.found (next_order c.args.place 1 _ (two_one _ _ c.requires.place.1))
    (λ k l h counts.
    let front = swap_inside_free q c.requires.search c.args.place k c.requires.inside (above c.args.place (c.args.place + 1) k (same (c.args.place + 1)) l) counts in
    absurd (too_early _ c.args.place c.first_free.result front c.if-place-first_free.true c.first_free.ensures.value))
    c.requires.best

pub row-before-requires : goal.row-before-requires
row-before-requires g c = record { high = out_room_inside (searched c.args.search.now) c.requires.search c.args.gathered.now c.requires.gathered c.requires.inside (c.args.place - 1) (one_less _ _ (two_one _ _ c.requires.place.1)) }

pub row-here-requires : goal.row-here-requires
row-here-requires g c = record { high = out_room_inside (searched c.args.search.now) c.requires.search c.args.gathered.now c.requires.gathered c.requires.inside c.args.place (next_less _ _ (two_one _ _ c.requires.place.1)) }

pub row-back-requires : goal.row-back-requires
row-back-requires g c = record { high = into_room_inside (searched c.args.search.now) c.requires.search c.args.gathered.now c.requires.gathered c.requires.inside c.args.place (next_less _ _ (two_one _ _ c.requires.place.1)) }

pub row-requires : goal.row-requires
row-requires g c =
    record { high = into_room_inside (searched c.args.search.now) c.requires.search c.args.gathered.now c.requires.gathered c.requires.inside (c.args.place + 1) (two_one _ _ c.requires.place.1) }

pub or_better-near-requires-clause-search : goal.or_better-near-requires-clause-search
or_better-near-requires-clause-search g c = c.requires.search

pub or_better-near-requires-clause-possible : goal.or_better-near-requires-clause-possible
or_better-near-requires-clause-possible g c =
    let low = c.requires.place.0 in
    let room = c.requires.place.1 in
    swap_inside_possible (searched c.args.search.now) c.requires.search c.args.gathered.now c.requires.gathered c.requires.inside c.args.place (c.args.place + 1) (omega arith) low (omega arith)

pub or_better-near-requires-clause-near : goal.or_better-near-requires-clause-near
or_better-near-requires-clause-near g c = (refl, refl, λ e. omega arith)

pub or_better-near-requires-clause-small : goal.or_better-near-requires-clause-small
or_better-near-requires-clause-small g c = three_low _ _ _ c.way_at.ensures.small c.way_at-2.ensures.small c.way_at-3.ensures.small

pub or_better-near-requires-clause-saving : goal.or_better-near-requires-clause-saving
or_better-near-requires-clause-saving g c =
    let f = c.way_at.ensures.value in
    let f2 = c.way_at-2.ensures.value in
    let f3 = c.way_at-3.ensures.value in
    let f4 = c.way_at-4.ensures.value in
    let f5 = c.way_at-5.ensures.value in
    let f6 = c.way_at-6.ensures.value in
    rw (f, f2, f3, f4, f5, f6) (next_saved (searched c.args.search.now) c.requires.search c.args.gathered.now c.requires.gathered c.requires.inside c.args.place
    c.row-before.result.now c.row-here.result.now c.row-back.result.now c.requires.place.0 c.requires.place.1 c.row-before.ensures.cells c.row-here.ensures.cells c.row-back.ensures.cells)

pub first_free-requires-clause-view : goal.first_free-requires-clause-view
first_free-requires-clause-view g c = c.requires.search.view

pub first_free-requires-clause-v : goal.first_free-requires-clause-v
first_free-requires-clause-v g c = (c.requires.gathered.from.low, c.requires.gathered.from.high)

pub overflow_sub-index : goal.overflow_sub-index
overflow_sub-index g c = c.requires.place.0

pub overflow_sub-index-2 : goal.overflow_sub-index-2
overflow_sub-index-2 g c = c.requires.place.0

pub way_at-requires : goal.way_at-requires
way_at-requires g c = edge_two_before c.args.place _ _ c.requires.place.1 (edges_inside (searched c.args.search.now) c.requires.search c.args.gathered.now c.requires.gathered c.requires.inside)

pub way_at-requires-2 : goal.way_at-requires-2
way_at-requires-2 g c = edge_two_at c.args.place _ _ c.requires.place.1 (edges_inside (searched c.args.search.now) c.requires.search c.args.gathered.now c.requires.gathered c.requires.inside)

pub overflow_add-lost : goal.overflow_add-lost
overflow_add-lost g c = two_fit _ _ c.way_at.ensures.small c.way_at-2.ensures.small

pub overflow_add-index : goal.overflow_add-index
overflow_add-index g c = two_next_fits c.args.place _ c.requires.place.1 c.requires.gathered.from.short

pub way_at-requires-3 : goal.way_at-requires-3
way_at-requires-3 g c = edge_two_next c.args.place _ _ c.requires.place.1 (edges_inside (searched c.args.search.now) c.requires.search c.args.gathered.now c.requires.gathered c.requires.inside)

pub overflow_add-next_lost : goal.overflow_add-next_lost
overflow_add-next_lost g c = three_fit _ _ _ c.way_at.ensures.small c.way_at-2.ensures.small c.way_at-3.ensures.small

pub overflow_add-index-2 : goal.overflow_add-index-2
overflow_add-index-2 g c = two_next_fits c.args.place _ c.requires.place.1 c.requires.gathered.from.short

pub way_at-requires-4 : goal.way_at-requires-4
way_at-requires-4 g c = row_two_next _ _ c.args.place c.row-before.ensures.sized c.requires.place.1

pub overflow_add-index-3 : goal.overflow_add-index-3
overflow_add-index-3 g c = two_next_fits c.args.place _ c.requires.place.1 c.requires.gathered.from.short

pub way_at-requires-5 : goal.way_at-requires-5
way_at-requires-5 g c = row_two_next _ _ c.args.place c.row-back.ensures.sized c.requires.place.1

pub overflow_add-gained : goal.overflow_add-gained
overflow_add-gained g c = two_fit _ _ c.way_at-4.ensures.small c.way_at-5.ensures.small

pub overflow_add-index-4 : goal.overflow_add-index-4
overflow_add-index-4 g c = count_fits c.args.place 2 _ c.requires.place.1 c.requires.gathered.from.short

pub way_at-requires-6 : goal.way_at-requires-6
way_at-requires-6 g c = row_has _ _ (c.args.place + 2) c.row-here.ensures.sized c.requires.place.1

pub overflow_add-gained-2 : goal.overflow_add-gained-2
overflow_add-gained-2 g c = three_fit _ _ _ c.way_at-4.ensures.small c.way_at-5.ensures.small c.way_at-6.ensures.small

pub overflow_add-mv : goal.overflow_add-mv
overflow_add-mv g c = next_casts c.args.place 2 _ c.requires.place.1 c.requires.gathered.from.short

pub overflow_add-index-5 : goal.overflow_add-index-5
overflow_add-index-5 g c = place_fits c.args.place _ (two_one _ _ c.requires.place.1) c.requires.gathered.from.short

pub overflow_add-place : goal.overflow_add-place
overflow_add-place g c = two_casts c.args.place _ (two_one _ _ c.requires.place.1) c.requires.gathered.from.short

pub overflow_cast-width : goal.overflow_cast-width
overflow_cast-width g c = width_casts _ c.requires.gathered.from.short

pub overflow_sub-width : goal.overflow_sub-width
overflow_sub-width g c = wide_some _ _ c.requires.gathered.from.sized

pub best_of_row-requires-clause-candidates : goal.best_of_row-requires-clause-candidates
best_of_row-requires-clause-candidates g c =
    let q = searched c.args.search.now in
    let a = c.args.gathered.now in
    let f = c.way_at.ensures.value in
    let f2 = c.way_at-2.ensures.value in
    λ at l h.
    let saved = swap_inside_saved q c.requires.search a c.requires.gathered c.requires.inside c.args.place at
    c.row-before.result.now c.row-here.result.now c.row.result.now c.row-back.result.now c.requires.place.0 (two_apart c.args.place at l) (place_room at _ h)
    c.row-before.ensures.cells c.row-here.ensures.cells c.row.ensures.cells c.row-back.ensures.cells in
    record {
      possible = swap_inside_possible q c.requires.search a c.requires.gathered c.requires.inside c.args.place at (two_behind c.args.place at l) c.requires.place.0 (place_room at _ h);
      near = (refl, refl, λ e. two_behind c.args.place at l);
      saving = omega arith;
    }

pub best_of_row-requires-clause-ways : goal.best_of_row-requires-clause-ways
best_of_row-requires-clause-ways g c =
    let counted = edges_inside (searched c.args.search.now) c.requires.search c.args.gathered.now c.requires.gathered c.requires.inside in
    let before = c.row-before.ensures.sized in
    let here = c.row-here.ensures.sized in
    let next = c.row.ensures.sized in
    let back = c.row-back.ensures.sized in
    λ k l h. (omega arith, record { edges = omega arith; before = omega arith; here = omega arith; next = omega arith; back = omega arith; most = c.requires.gathered.most })

pub best_of_row-requires-clause-best : goal.best_of_row-requires-clause-best
best_of_row-requires-clause-best g c =
    let q = searched c.args.search.now in
    c.or_better-near.ensures (2 ∷ q.v ∷ c.args.place ∷ q.w ∷ (c.args.place + 2) ∷ [])
    (swap_beside q c.requires.search c.args.place) c.requires.best

pub returns : goal.returns
returns g c = c.best_of_row.ensures
