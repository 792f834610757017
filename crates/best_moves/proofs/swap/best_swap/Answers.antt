use Rattle.std.proofs.Common.{◌-◌, arith, length}
use Rattle.best_moves.specs.Searched.{searched}
use Rattle.best_moves.proofs.PairRows.{swap_apart, swap_row, swap_row_done, swaps_begin, swaps_end}
use Rattle.best_moves.proofs.Small.{place_room, wide_some, width_casts}
use Rattle.best_moves.proofs.swap.best_swap.Goals as goal

pub loop-place-init : goal.loop-place-init
loop-place-init g c = swaps_begin (searched c.args.search.now) c.requires.search c.args.best.found c.requires.best

pub swap_over-best-requires-clause-best : goal.swap_over-best-requires-clause-best
swap_over-best-requires-clause-best g c =
    let q = searched c.args.search.now in
    swap_row q c.requires.search c.loop-place.place 1 c.loop-place.best.found (swap_apart q.v q.w c.loop-place.place c.requires.apart) c.loop-place.invariant

pub loop-place-preserved : goal.loop-place-preserved
loop-place-preserved g c =
    let q = searched c.args.search.now in
    let wide = c.requires.gathered.to.sized in
    swap_row_done q c.requires.search c.loop-place.place (length c.args.gathered.now.to.now - 1) c.swap_over-best.result.found (omega arith) c.swap_over-best.ensures

pub returns : goal.returns
returns g c =
    let low = c.loop-place-test.false in
    let long = c.requires.gathered.from.sized in
    swaps_end (searched c.args.search.now) c.requires.search c.loop-place.place c.loop-place.best.found (omega arith) c.loop-place.invariant

pub overflow_cast-place-end : goal.overflow_cast-place-end
overflow_cast-place-end g c = width_casts _ c.requires.gathered.from.short

pub overflow_sub-place-end : goal.overflow_sub-place-end
overflow_sub-place-end g c = wide_some _ _ c.requires.gathered.from.sized

pub swap_over-best-requires-clause-search : goal.swap_over-best-requires-clause-search
swap_over-best-requires-clause-search g c = c.requires.search

pub swap_over-best-requires-clause-gathered : goal.swap_over-best-requires-clause-gathered
swap_over-best-requires-clause-gathered g c = c.requires.gathered

pub swap_over-best-requires-clause-apart : goal.swap_over-best-requires-clause-apart
swap_over-best-requires-clause-apart g c = c.requires.apart

pub swap_over-best-requires-clause-place : goal.swap_over-best-requires-clause-place
swap_over-best-requires-clause-place g c = (c.loop-place.auto.place, place_room c.loop-place.place _ c.loop-place-test.true)
