use Rattle.std.proofs.Common.{ℕ, ◌+◌, subst}
use Rattle.best_moves.specs.Best.{numbers_of}
use Rattle.best_moves.specs.Rows.{move_at}
use Rattle.best_moves.specs.Search.{IsBestSoFar}
use Rattle.best_moves.specs.Searched.{searched}
use Rattle.best_moves.proofs.Candidates.{kind_next, row_past, same_candidate}
use Rattle.best_moves.proofs.Found.{before, before_end, both_ways, found_below, found_within, on, on_next}
use Rattle.best_moves.proofs.rows.best_of_row.Goals as goal

pub returns-then-not-may_gain : goal.returns-then-not-may_gain
returns-then-not-may_gain g c =
    let row = c.args.row.now in
    row_past (searched c.args.search.now) c.requires.search row.kind c.args.first c.args.end row.lost row.gained c.wanted.result (g.R.RowCosts.loses row.ways.now) (g.R.RowCosts.gains row.ways.now) c.args.best.found
    c.requires.low c.requires.order c.requires.candidates (c.may_gain.ensures c.if-not-may_gain.true) c.wanted.ensures.value c.requires.best

pub returns-then-found-last : goal.returns-then-found-last
returns-then-found-last g c =
    let row = c.args.row.now in
    row_past (searched c.args.search.now) c.requires.search row.kind c.row.at c.args.end row.lost row.gained c.wanted-in-row.result (g.R.RowCosts.loses row.ways.now) (g.R.RowCosts.gains row.ways.now) c.row.best.found
    (on _ c.args.first c.row.at c.requires.low c.row.invariant.low) c.row.invariant.high (λ k h l. c.requires.candidates k (on c.args.first c.row.at k c.row.invariant.low h) l)
    (λ k l h. c.first_gain-found.ensures.none k (before_end k c.first_gain-found.result c.args.end c.if-found-last.true l) h) c.wanted-in-row.ensures.value c.row.invariant.best

pub row-preserved : goal.row-preserved
row-preserved g c =
    let q = searched c.args.search.now in
    let row = c.args.row.now in
    let found = c.first_gain-found.result in
    let low = on _ c.args.first c.row.at c.requires.low c.row.invariant.low in
    let past =
    row_past q c.requires.search row.kind c.row.at found row.lost row.gained c.wanted-in-row.result (g.R.RowCosts.loses row.ways.now) (g.R.RowCosts.gains row.ways.now) c.row.best.found
    low c.first_gain-found.ensures.low (λ k h l. c.requires.candidates k (on c.args.first c.row.at k c.row.invariant.low h) (before k found c.args.end l c.first_gain-found.ensures.high))
    c.first_gain-found.ensures.none c.wanted-in-row.ensures.value c.row.invariant.best in
    record {
      low = on_next c.args.first c.row.at found c.row.invariant.low c.first_gain-found.ensures.low;
      high = found_below found c.args.end c.first_gain-found.ensures.high c.if-found-last.false;
      best = rw c.move_at-mv.ensures at c.or_better-best.ensures (numbers_of (move_at q row.kind (found + 1))) (kind_next q c.requires.search row.kind found (on _ c.row.at found low c.first_gain-found.ensures.low)) past;
    }

pub returns : goal.returns
returns g c =
    let q = searched c.args.search.now in
    subst (λ (k : ℕ). IsBestSoFar q (numbers_of (move_at q c.args.row.now.kind k)) c.row.best.found) (both_ways c.row.at c.args.end c.row-test.false c.row.invariant.high) c.row.invariant.best

pub or_better-best-requires-clause-possible : goal.or_better-best-requires-clause-possible
or_better-best-requires-clause-possible g c =
    let found = c.first_gain-found.result in
    let q = searched c.args.search.now in
    let row = c.args.row.now in
    let m = same_candidate q c.move_at-mv.result (move_at q row.kind found) row.lost row.gained c.lost.result c.gained.result (g.R.RowCosts.loses row.ways.now found) (g.R.RowCosts.gains row.ways.now found)
    c.move_at-mv.ensures c.lost.ensures.value c.gained.ensures.value
    (c.requires.candidates found (on c.args.first c.row.at found c.row.invariant.low c.first_gain-found.ensures.low) (found_within found c.args.end c.first_gain-found.ensures.high c.if-found-last.false)) in
    m.possible

pub or_better-best-requires-clause-near : goal.or_better-best-requires-clause-near
or_better-best-requires-clause-near g c =
    let found = c.first_gain-found.result in
    let q = searched c.args.search.now in
    let row = c.args.row.now in
    let m = same_candidate q c.move_at-mv.result (move_at q row.kind found) row.lost row.gained c.lost.result c.gained.result (g.R.RowCosts.loses row.ways.now found) (g.R.RowCosts.gains row.ways.now found)
    c.move_at-mv.ensures c.lost.ensures.value c.gained.ensures.value
    (c.requires.candidates found (on c.args.first c.row.at found c.row.invariant.low c.first_gain-found.ensures.low) (found_within found c.args.end c.first_gain-found.ensures.high c.if-found-last.false)) in
    m.near

pub or_better-best-requires-clause-saving : goal.or_better-best-requires-clause-saving
or_better-best-requires-clause-saving g c =
    let found = c.first_gain-found.result in
    let q = searched c.args.search.now in
    let row = c.args.row.now in
    let m = same_candidate q c.move_at-mv.result (move_at q row.kind found) row.lost row.gained c.lost.result c.gained.result (g.R.RowCosts.loses row.ways.now found) (g.R.RowCosts.gains row.ways.now found)
    c.move_at-mv.ensures c.lost.ensures.value c.gained.ensures.value
    (c.requires.candidates found (on c.args.first c.row.at found c.row.invariant.low c.first_gain-found.ensures.low) (found_within found c.args.end c.first_gain-found.ensures.high c.if-found-last.false)) in
    m.saving

pub may_gain-requires-clause-row : goal.may_gain-requires-clause-row
may_gain-requires-clause-row g c = c.requires.ways

pub first_gain-found-requires-clause-row : goal.first_gain-found-requires-clause-row
first_gain-found-requires-clause-row g c = λ k h l. c.requires.ways k (on c.args.first c.row.at k c.row.invariant.low h) l
