use Rattle.std.proofs.Common.{◌+◌, ◌-◌, arith, refl, length}
use Rattle.best_moves.specs.Searched.{searched}
use Rattle.best_moves.proofs.PairRows.{reverses_begin, reverses_end, reverse_row, reverse_row_done}
use Rattle.best_moves.proofs.Small.{place_room, wide_some, width_casts}
use Rattle.best_moves.proofs.reverse.best_reverse.Goals as goal

pub loop-first-init : goal.loop-first-init
loop-first-init g c = reverses_begin (searched c.args.search.now) c.requires.search c.args.best.found c.requires.best

pub reverse_from-best-requires-clause-best : goal.reverse_from-best-requires-clause-best
reverse_from-best-requires-clause-best g c = reverse_row (searched c.args.search.now) c.requires.search c.loop-first.first (c.loop-first.first + 1) c.loop-first.best.found refl c.loop-first.invariant

pub loop-first-preserved : goal.loop-first-preserved
loop-first-preserved g c =
    let wide = c.requires.gathered.from.sized in
    reverse_row_done (searched c.args.search.now) c.requires.search c.loop-first.first (length c.args.gathered.now.from.now - 1) c.reverse_from-best.result.found (omega arith) c.reverse_from-best.ensures

pub returns : goal.returns
returns g c =
    let low = c.loop-first-test.false in
    let long = c.requires.gathered.from.sized in
    reverses_end (searched c.args.search.now) c.requires.search c.loop-first.first c.loop-first.best.found (omega arith) c.loop-first.invariant

pub overflow_cast-first-end : goal.overflow_cast-first-end
overflow_cast-first-end g c = width_casts _ c.requires.gathered.from.short

pub overflow_sub-first-end : goal.overflow_sub-first-end
overflow_sub-first-end g c = wide_some _ _ c.requires.gathered.from.sized

pub reverse_from-best-requires-clause-search : goal.reverse_from-best-requires-clause-search
reverse_from-best-requires-clause-search g c = c.requires.search

pub reverse_from-best-requires-clause-gathered : goal.reverse_from-best-requires-clause-gathered
reverse_from-best-requires-clause-gathered g c = c.requires.gathered

pub reverse_from-best-requires-clause-inside : goal.reverse_from-best-requires-clause-inside
reverse_from-best-requires-clause-inside g c = c.requires.inside

pub reverse_from-best-requires-clause-sums : goal.reverse_from-best-requires-clause-sums
reverse_from-best-requires-clause-sums g c = c.requires.sums

pub reverse_from-best-requires-clause-first : goal.reverse_from-best-requires-clause-first
reverse_from-best-requires-clause-first g c = (c.loop-first.auto.first, place_room c.loop-first.first _ c.loop-first-test.true)
