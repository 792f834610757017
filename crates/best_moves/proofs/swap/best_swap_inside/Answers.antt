use Rattle.std.proofs.Common.{◌+◌, ◌-◌, arith, length}
use Rattle.best_moves.specs.Searched.{searched}
use Rattle.best_moves.proofs.PairRows.{swap_behind, swap_row, swap_row_done, swaps_begin, swaps_end}
use Rattle.best_moves.proofs.Saved.{same_stops}
use Rattle.best_moves.proofs.Small.{width_casts}
use Rattle.best_moves.proofs.swap.best_swap_inside.Goals as goal

pub loop-place-init : goal.loop-place-init
loop-place-init g c = swaps_begin (searched c.args.search.now) c.requires.search c.args.best.found c.requires.best

pub swap_within-best-requires-clause-best : goal.swap_within-best-requires-clause-best
swap_within-best-requires-clause-best g c =
    let q = searched c.args.search.now in
    swap_row q c.requires.search c.loop-place.place (c.loop-place.place + 1) c.loop-place.best.found (swap_behind q.v q.w c.loop-place.place c.requires.inside) c.loop-place.invariant

pub loop-place-preserved : goal.loop-place-preserved
loop-place-preserved g c =
    let q = searched c.args.search.now in
    let same = same_stops q c.requires.search c.args.gathered.now c.requires.gathered c.requires.inside in
    let wide = rw same at c.requires.gathered.to.sized in
    swap_row_done q c.requires.search c.loop-place.place (length c.args.gathered.now.from.now - 1) c.swap_within-best.result.found (omega arith) c.swap_within-best.ensures

-- the last customer has none behind it
pub returns : goal.returns
returns g c =
    let q = searched c.args.search.now in
    let low = c.loop-place-test.false in
    let long = c.requires.gathered.from.sized in
    let same = same_stops q c.requires.search c.args.gathered.now c.requires.gathered c.requires.inside in
    let wide = rw same at c.requires.gathered.to.sized in
    let x = c.loop-place.place in
    let row = swap_row q c.requires.search x (x + 1) c.loop-place.best.found (swap_behind q.v q.w x c.requires.inside) c.loop-place.invariant in
    swaps_end q c.requires.search (x + 1) c.loop-place.best.found (omega arith) (swap_row_done q c.requires.search x (x + 1) c.loop-place.best.found (omega arith) row)

pub overflow_cast-place-end : goal.overflow_cast-place-end
overflow_cast-place-end g c = width_casts _ c.requires.gathered.from.short

pub overflow_sub-place-end : goal.overflow_sub-place-end
overflow_sub-place-end g c = let long = c.requires.gathered.from.sized in omega arith

pub swap_within-best-requires-clause-search : goal.swap_within-best-requires-clause-search
swap_within-best-requires-clause-search g c = c.requires.search

pub swap_within-best-requires-clause-gathered : goal.swap_within-best-requires-clause-gathered
swap_within-best-requires-clause-gathered g c = c.requires.gathered

pub swap_within-best-requires-clause-inside : goal.swap_within-best-requires-clause-inside
swap_within-best-requires-clause-inside g c = c.requires.inside

pub swap_within-best-requires-clause-place : goal.swap_within-best-requires-clause-place
swap_within-best-requires-clause-place g c = let t = c.loop-place-test.true in (c.loop-place.auto.place, omega arith)
