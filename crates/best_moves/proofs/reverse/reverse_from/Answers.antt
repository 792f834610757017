use Rattle.std.proofs.Common.{◌+◌, ◌-◌, arith, refl, length}
use Rattle.best_moves.specs.Searched.{searched}
use Rattle.best_moves.proofs.PairRows.{reverses_past}
use Rattle.best_moves.proofs.Saved.{reverse_possible, reverse_saved, edges_inside, out_room_inside}
use Rattle.best_moves.proofs.Found.{above, same}
use Rattle.best_moves.proofs.Still.{reverse_free}
use Rattle.best_moves.proofs.Small.{edge_before, next_less, next_order, one_less, place_room, sum_low, sums_at, too_early, way_sum_fits, way_sum_low, wide_some, width_casts}
use Rattle.best_moves.proofs.reverse.reverse_from.Goals as goal

pub returns-then-first-first_free : goal.returns-then-first-first_free
returns-then-first-first_free g c =
    let q = searched c.args.search.now in
    reverses_past q c.requires.search c.args.first (c.args.first + 1) (length c.args.gathered.now.from.now - 1) c.args.best.found (next_order c.args.first 1 _ c.requires.first.1)
    (λ k l h counts.
    absurd (too_early _ c.args.first c.first_free.result (reverse_free q c.requires.search c.args.first k counts) c.if-first-first_free.true c.first_free.ensures.value))
    c.requires.best

pub row-requires : goal.row-requires
row-requires g c = record { high = out_room_inside (searched c.args.search.now) c.requires.search c.args.gathered.now c.requires.gathered c.requires.inside (c.args.first - 1) (one_less _ _ c.requires.first.1) }

pub row-requires-2 : goal.row-requires-2
row-requires-2 g c = record { high = out_room_inside (searched c.args.search.now) c.requires.search c.args.gathered.now c.requires.gathered c.requires.inside c.args.first (next_less _ _ c.requires.first.1) }

pub first_free-requires-clause-view : goal.first_free-requires-clause-view
first_free-requires-clause-view g c = c.requires.search.view

pub first_free-requires-clause-v : goal.first_free-requires-clause-v
first_free-requires-clause-v g c = (c.requires.gathered.from.low, c.requires.gathered.from.high)

pub overflow_sub-index : goal.overflow_sub-index
overflow_sub-index g c = c.requires.first.0

pub way_at-requires : goal.way_at-requires
way_at-requires g c = edge_before c.args.first _ _ c.requires.first.1 (edges_inside (searched c.args.search.now) c.requires.search c.args.gathered.now c.requires.gathered c.requires.inside)

pub bounds-back_sums-index : goal.bounds-back_sums-index
bounds-back_sums-index g c = sums_at c.args.first _ _ c.requires.first.1 c.requires.sums.back_sums.counted

pub overflow_add-reverses : goal.overflow_add-reverses
overflow_add-reverses g c = way_sum_fits _ _ c.way_at.ensures.small (c.requires.sums.small.1 c.args.first 0 (sums_at c.args.first _ _ c.requires.first.1 c.requires.sums.back_sums.counted))

pub bounds-sums-index : goal.bounds-sums-index
bounds-sums-index g c = sums_at c.args.first _ _ c.requires.first.1 c.requires.sums.sums.counted

pub overflow_sub-index-2 : goal.overflow_sub-index-2
overflow_sub-index-2 g c = c.requires.first.0

pub overflow_cast-width : goal.overflow_cast-width
overflow_cast-width g c = width_casts _ c.requires.gathered.from.short

pub overflow_sub-width : goal.overflow_sub-width
overflow_sub-width g c = wide_some _ _ c.requires.gathered.from.sized

pub best_of_row-requires-clause-candidates : goal.best_of_row-requires-clause-candidates
best_of_row-requires-clause-candidates g c =
    let q = searched c.args.search.now in
    let a = c.args.gathered.now in
    let f = c.way_at.ensures.value in
    λ last l h.
    let low = above c.args.first last last l (same last) in
    let saved = reverse_saved q c.requires.search a c.requires.gathered c.requires.inside c.args.first last c.args.sums.now c.args.back_sums.now
    c.row.result.now c.row-2.result.now c.requires.first.0 low (place_room last _ h) c.requires.sums c.row.ensures.cells c.row-2.ensures.cells in
    record {
      possible = reverse_possible q c.requires.search a c.requires.gathered c.requires.inside c.args.first last c.requires.first.0 low (place_room last _ h);
      near = (refl, c.requires.inside);
      saving = omega arith;
    }

pub best_of_row-requires-clause-ways : goal.best_of_row-requires-clause-ways
best_of_row-requires-clause-ways g c =
    let counted = edges_inside (searched c.args.search.now) c.requires.search c.args.gathered.now c.requires.gathered c.requires.inside in
    let sums = c.requires.sums.sums.counted in
    let back_sums = c.requires.sums.back_sums.counted in
    let before = c.row.ensures.sized in
    let here = c.row-2.ensures.sized in
    λ k l h. record { edges = omega arith; sums = omega arith; back_sums = omega arith; before = omega arith; here = omega arith; small = c.requires.sums.small }

pub best_of_row-requires-clause-fixed : goal.best_of_row-requires-clause-fixed
best_of_row-requires-clause-fixed g c =
    let sums = c.requires.sums.sums.counted in
    let back_sums = c.requires.sums.back_sums.counted in
    let high = c.requires.first.1 in
    (way_sum_low _ _ c.way_at.ensures.small (c.requires.sums.small.1 c.args.first 0 (sums_at c.args.first _ _ high back_sums)), sum_low _ (c.requires.sums.small.0 c.args.first 0 (sums_at c.args.first _ _ high sums)))

pub best_of_row-requires-clause-best : goal.best_of_row-requires-clause-best
best_of_row-requires-clause-best g c = c.requires.best

pub returns : goal.returns
returns g c = c.best_of_row.ensures
