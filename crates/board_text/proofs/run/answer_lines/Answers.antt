use Rattle.std.proofs.Common.{◌≤◌, ◌+◌, refl, arith}
use Rattle.std.proofs.lemmas.Result.{err_from_is_err_and}
use Rattle.board_text.proofs.Fed.{full_fed, last_answered, last_broken, last_sums, line_answered, line_broken, line_sums, long_fed, none_fed, rest_of, unread_at, whole_of}
use Rattle.board_text.proofs.run.answer_lines.Goals as goal

pub lines-init : goal.lines-init
lines-init g c = (none_fed g.F.Front.step g.F.Front.refuses (g.F.Front.seen c.args.front.now) _ _ c.args.feed.now.held.items _ c.requires.feed refl refl, c.requires.ready)

pub returns-in_err-line-clause-err : goal.returns-in_err-line-clause-err
returns-in_err-line-clause-err g c =
    let p = err_from_is_err_and c.from_residual.result c.from_residual.ensures.1 in
    rw (p.1, p.2) (unread_at g.F.Front.step g.F.Front.refuses c.in_err-line.field-0.0 _ _ _ _ _ _ _ c.lines.feed.held.items c.next.new.self.held.items c.lines.before c.lines.counts c.lines.invariant.0 c.in_err-line.ensures)

pub returns-in_err-more-in-Line-clause-err : goal.returns-in_err-more-in-Line-clause-err
returns-in_err-more-in-Line-clause-err g c =
    let p = err_from_is_err_and c.from_residual-in_err-more-in-Line.result c.from_residual-in_err-more-in-Line.ensures.1 in
    let n = rw c.in-Line.is at c.in_ok-line.ensures in
    rw (p.1, p.2) (line_broken g.F.Front.step g.F.Front.refuses c.requires.skips c.in_err-more-in-Line.field-0.0 _ _ _ _ _ _ _ _ _ c.lines.feed.held.items c.next.new.self.held.items c.in-Line.line.items c.lines.before c.lines.counts c.lines.invariant.0
    (whole_of g.F.Front.step g.F.Front.refuses c.lines.feed.held.items c.next.new.self.held.items c.in-Line.line.items _ (g.I.Read.remaining c.lines.reader) (g.I.Read.remaining c.next.new.reader) refl n) c.in_err-more-in-Line.ensures.err)

pub plus-counts-requires-clause-lines : goal.plus-counts-requires-clause-lines
plus-counts-requires-clause-lines g c =
    let n = rw c.in-Line.is at c.in_ok-line.ensures in
    (line_sums g.F.Front.step g.F.Front.refuses _ _ _ _ _ _ _ _ c.lines.feed.held.items c.next.new.self.held.items c.in-Line.line.items c.lines.before c.lines.counts c.in_ok-more-in-Line.more c.lines.invariant.0 c.lines.auto.before-end
    (whole_of g.F.Front.step g.F.Front.refuses c.lines.feed.held.items c.next.new.self.held.items c.in-Line.line.items _ (g.I.Read.remaining c.lines.reader) (g.I.Read.remaining c.next.new.reader) refl n) c.in_ok-more-in-Line.ensures.ok).0

pub plus-counts-requires-clause-refused : goal.plus-counts-requires-clause-refused
plus-counts-requires-clause-refused g c =
    let n = rw c.in-Line.is at c.in_ok-line.ensures in
    (line_sums g.F.Front.step g.F.Front.refuses _ _ _ _ _ _ _ _ c.lines.feed.held.items c.next.new.self.held.items c.in-Line.line.items c.lines.before c.lines.counts c.in_ok-more-in-Line.more c.lines.invariant.0 c.lines.auto.before-end
    (whole_of g.F.Front.step g.F.Front.refuses c.lines.feed.held.items c.next.new.self.held.items c.in-Line.line.items _ (g.I.Read.remaining c.lines.reader) (g.I.Read.remaining c.next.new.reader) refl n) c.in_ok-more-in-Line.ensures.ok).1

pub returns-in_err-more-in-Last-clause-err : goal.returns-in_err-more-in-Last-clause-err
returns-in_err-more-in-Last-clause-err g c =
    let p = err_from_is_err_and c.from_residual-in_err-more-in-Last.result c.from_residual-in_err-more-in-Last.ensures.1 in
    let n = rw c.in-Last.is at c.in_ok-line.ensures in
    rw (p.1, p.2) (last_broken g.F.Front.step g.F.Front.refuses c.requires.skips c.in_err-more-in-Last.field-0.0 _ _ _ _ _ _ _ _ _ c.lines.feed.held.items c.in-Last.rest.items c.lines.before c.lines.counts c.lines.invariant.0
    (rest_of g.F.Front.step g.F.Front.refuses c.lines.feed.held.items c.in-Last.rest.items _ (g.I.Read.remaining c.lines.reader) (g.I.Read.remaining c.next.new.reader) refl n) c.in_err-more-in-Last.ensures.err)

pub plus-requires-clause-lines : goal.plus-requires-clause-lines
plus-requires-clause-lines g c =
    let n = rw c.in-Last.is at c.in_ok-line.ensures in
    (last_sums g.F.Front.step g.F.Front.refuses _ _ _ _ (g.I.Read.remaining c.lines.reader) (g.I.Read.remaining c.next.new.reader) _ _ c.lines.feed.held.items c.in-Last.rest.items c.lines.before c.lines.counts c.in_ok-more-in-Last.more c.lines.invariant.0 c.lines.auto.before-end
    (rest_of g.F.Front.step g.F.Front.refuses c.lines.feed.held.items c.in-Last.rest.items _ (g.I.Read.remaining c.lines.reader) (g.I.Read.remaining c.next.new.reader) refl n) c.in_ok-more-in-Last.ensures.ok).0

pub plus-requires-clause-refused : goal.plus-requires-clause-refused
plus-requires-clause-refused g c =
    let n = rw c.in-Last.is at c.in_ok-line.ensures in
    (last_sums g.F.Front.step g.F.Front.refuses _ _ _ _ (g.I.Read.remaining c.lines.reader) (g.I.Read.remaining c.next.new.reader) _ _ c.lines.feed.held.items c.in-Last.rest.items c.lines.before c.lines.counts c.in_ok-more-in-Last.more c.lines.invariant.0 c.lines.auto.before-end
    (rest_of g.F.Front.step g.F.Front.refuses c.lines.feed.held.items c.in-Last.rest.items _ (g.I.Read.remaining c.lines.reader) (g.I.Read.remaining c.next.new.reader) refl n) c.in_ok-more-in-Last.ensures.ok).1

pub returns-in-Last-clause-ok : goal.returns-in-Last-clause-ok
returns-in-Last-clause-ok g c =
    let n = rw c.in-Last.is at c.in_ok-line.ensures in
    let few : c.lines.before + 1 ≤ 4294967296 = omega (arith, c.lines-test.true, c.lines.auto.before-end) in
    last_answered g.F.Front.step g.F.Front.refuses _ _ _ _ _ _ _ _ _ c.lines.feed.held.items c.in-Last.rest.items c.lines.before c.lines.counts c.in_ok-more-in-Last.more c.plus.result c.lines.invariant.0
    (rest_of g.F.Front.step g.F.Front.refuses c.lines.feed.held.items c.in-Last.rest.items _ (g.I.Read.remaining c.lines.reader) (g.I.Read.remaining c.next.new.reader) refl n) few c.in_ok-more-in-Last.ensures.ok c.plus.ensures.lines c.plus.ensures.refused

pub returns-in-Long-clause-err : goal.returns-in-Long-clause-err
returns-in-Long-clause-err g c =
    let n = rw c.in-Long.is at c.in_ok-line.ensures in
    long_fed g.F.Front.step g.F.Front.refuses _ _ _ _ _ _ _ c.lines.feed.held.items n.0 c.lines.before c.lines.counts c.lines.invariant.0 n.1 n.2

pub lines-preserved : goal.lines-preserved
lines-preserved g c =
    let n = rw c.in-Line.is at c.in_ok-line.ensures in (
      line_answered g.F.Front.step g.F.Front.refuses _ _ _ _ _ _ _ _ _ c.lines.feed.held.items c.next.new.self.held.items c.in-Line.line.items c.lines.before c.lines.counts c.in_ok-more-in-Line.more c.plus-counts.result c.lines.invariant.0
          (whole_of g.F.Front.step g.F.Front.refuses c.lines.feed.held.items c.next.new.self.held.items c.in-Line.line.items _ (g.I.Read.remaining c.lines.reader) (g.I.Read.remaining c.next.new.reader) refl n) c.in_ok-more-in-Line.ensures.ok c.plus-counts.ensures.lines c.plus-counts.ensures.refused,
      c.in_ok-more-in-Line.ensures.ready,
    )

pub returns-clause-err : goal.returns-clause-err
returns-clause-err g c = full_fed g.F.Front.step g.F.Front.refuses _ _ _ _ _ _ c.lines.feed.held.items c.lines.before c.lines.counts c.lines.invariant.0 (omega (arith, c.lines-test.false, c.lines.auto.before-end))
