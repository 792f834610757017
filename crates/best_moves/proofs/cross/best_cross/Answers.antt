use Rattle.std.proofs.Common.{inl, inr, ◌-◌, arith, refl, length}
use Rattle.best_moves.specs.Searched.{searched}
use Rattle.best_moves.proofs.PairRows.{crosses_end, crosses_from, cross_row, cross_row_done}
use Rattle.best_moves.proofs.Still.{cross_kept}
use Rattle.best_moves.proofs.Small.{begin_room, place_room, wide_some, width_casts}
use Rattle.best_moves.proofs.cross.best_cross.Goals as goal

pub loop-keep-init : goal.loop-keep-init
loop-keep-init g c =
    let q = searched c.args.search.now in
    crosses_from q c.requires.search c.must_keep-least.result c.args.best.found (λ k l h counts. cross_kept q c.requires.search k l counts (inl (c.must_keep-least.ensures.held k h))) c.requires.best

pub cross_over-best-requires-clause-onto : goal.cross_over-best-requires-clause-onto
cross_over-best-requires-clause-onto g c = λ l h counts.
    cross_kept (searched c.args.search.now) c.requires.search c.loop-keep.keep l counts (inr (c.must_keep-begin.ensures.held l h))

pub cross_over-best-requires-clause-best : goal.cross_over-best-requires-clause-best
cross_over-best-requires-clause-best g c = cross_row (searched c.args.search.now) c.requires.search c.loop-keep.keep 0 c.loop-keep.best.found refl c.loop-keep.invariant

pub loop-keep-preserved : goal.loop-keep-preserved
loop-keep-preserved g c =
    let wide = c.requires.gathered.to.sized in
    cross_row_done (searched c.args.search.now) c.requires.search c.loop-keep.keep (length c.args.gathered.now.to.now - 1) c.cross_over-best.result.found (omega arith) c.cross_over-best.ensures

pub returns : goal.returns
returns g c =
    let low = c.loop-keep-test.false in
    let long = c.requires.gathered.from.sized in
    crosses_end (searched c.args.search.now) c.requires.search c.loop-keep.keep c.loop-keep.best.found (omega arith) c.loop-keep.invariant

pub must_keep-least-requires-clause-view : goal.must_keep-least-requires-clause-view
must_keep-least-requires-clause-view g c = c.requires.search.view

pub must_keep-least-requires-clause-v : goal.must_keep-least-requires-clause-v
must_keep-least-requires-clause-v g c = (c.requires.gathered.from.low, c.requires.gathered.from.high)

pub must_keep-begin-requires-clause-view : goal.must_keep-begin-requires-clause-view
must_keep-begin-requires-clause-view g c = c.requires.search.view

pub must_keep-begin-requires-clause-v : goal.must_keep-begin-requires-clause-v
must_keep-begin-requires-clause-v g c = (c.requires.gathered.to.low, c.requires.gathered.to.high)

pub overflow_cast-keep-end : goal.overflow_cast-keep-end
overflow_cast-keep-end g c = width_casts _ c.requires.gathered.from.short

pub overflow_sub-keep-end : goal.overflow_sub-keep-end
overflow_sub-keep-end g c = wide_some _ _ c.requires.gathered.from.sized

pub cross_over-best-requires-clause-search : goal.cross_over-best-requires-clause-search
cross_over-best-requires-clause-search g c = c.requires.search

pub cross_over-best-requires-clause-gathered : goal.cross_over-best-requires-clause-gathered
cross_over-best-requires-clause-gathered g c = c.requires.gathered

pub cross_over-best-requires-clause-apart : goal.cross_over-best-requires-clause-apart
cross_over-best-requires-clause-apart g c = c.requires.apart

pub cross_over-best-requires-clause-begin : goal.cross_over-best-requires-clause-begin
cross_over-best-requires-clause-begin g c = begin_room _ _ _ c.must_keep-begin.ensures.high c.requires.gathered.to.sized

pub cross_over-best-requires-clause-keep : goal.cross_over-best-requires-clause-keep
cross_over-best-requires-clause-keep g c = place_room c.loop-keep.keep _ c.loop-keep-test.true
