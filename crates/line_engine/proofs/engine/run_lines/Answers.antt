use Rattle.std.proofs.Common.{◌≡◌, ◌∙◌, [], ◌++◌, take, arith, refl, ap, List, ℕ}
use Rattle.std.proofs.lemmas.List.{append-nil}
use Rattle.std.proofs.lemmas.Result.{err_from_is_err_and}
use Rattle.line_engine.proofs.Bytes.{Appends-none, Consumes-none, Consumes-then, Appends-then}
use Rattle.line_engine.proofs.Sending.{AppendsPrefix-then, Reaches-then, nil_first}
use Rattle.line_engine.proofs.WholeRuns.{started, no_room, unflushed, unread, read_ended, last_stopped, last_unwritten, all_answered, piece_stopped, piece_done}
use Rattle.line_engine.proofs.engine.run_lines.Goals as goal

pub reads-init : goal.reads-init
reads-init g c = ([], [], Consumes-none _, Appends-none _, started g.F.Front.step _ _ _ _ _ _ c.in_ok-outbox.ensures.held c.new-partial.ensures.items c.in_ok-outbox.ensures.seen c.in_ok-outbox.ensures.lines c.in_ok-outbox.ensures.refused, c.requires)

pub returns-in_err-outbox-clause-err : goal.returns-in_err-outbox-clause-err
returns-in_err-outbox-clause-err g c =
    let p = err_from_is_err_and c.from_residual.result c.from_residual.ensures.1 in
    rw (p.1, p.2) (no_room g.F.Front.step g.F.Front.refuses _ _ _)

pub returns-in_err-flush-clause-err : goal.returns-in_err-flush-clause-err
returns-in_err-flush-clause-err g c =
    let i = c.reads.invariant in
    let p = err_from_is_err_and c.from_residual-in_err-flush.result c.from_residual-in_err-flush.ensures.1 in
    rw (p.1, p.2, c.in_err-flush.ensures.kind) (unflushed g.F.Front.step g.F.Front.refuses _ _ _ _ _ _ (i.1 ++ c.reads.outbox.held.items) i.0 _ _ _ _ i.2 (AppendsPrefix-then _ _ _ i.1 _ i.3 c.in_err-flush.ensures.err) i.4)

pub returns-in_default-clause-err : goal.returns-in_default-clause-err
returns-in_default-clause-err g c =
    let i = c.reads.invariant in
    unread g.F.Front.step g.F.Front.refuses _ _ _ _ _ _ _ (i.1 ++ c.reads.outbox.held.items) i.0 _ _ _ _ i.2 c.in_default.ensures.bytes (Appends-then _ _ _ i.1 _ i.3 c.in_ok-flush.ensures.ok) i.4

pub returns-in-Err-clause-err : goal.returns-in-Err-clause-err
returns-in-Err-clause-err g c =
    let i = c.reads.invariant in
    let x = i.1 ++ c.reads.outbox.held.items in
    let held : c.finish.new.outbox.held.items ≡ [] = c.in-Err.ensures.held ∙ c.in_ok-flush.ensures.none in
    let sent = Appends-then _ _ _ i.1 _ i.3 c.in_ok-flush.ensures.ok in
    last_stopped g.F.Front.step g.F.Front.refuses c.in-Err.fault c.close.result _ _ _ _ _ _ _ _ x (x ++ c.finish.new.outbox.held.items) i.0 c.reads.partial.items _ _ _ _ _ i.2 c.in-Ok.ensures.bytes.0 (rw c.if-count-eq0.true refl) (c.in-Ok.ensures.bytes.1 c.if-count-eq0.true (omega arith)) c.close.ensures.fault
    (Reaches-then c.close.result _ _ _ x c.finish.new.outbox.held.items sent c.close.ensures.bytes) (ap (λ (l : List ℕ). x ++ l) held ∙ append-nil x) (rw (← c.flush.ensures.tally) at i.4) c.as_slice.ensures.value c.in-Err.ensures.err

pub returns-in_err-flush-2-clause-err : goal.returns-in_err-flush-2-clause-err
returns-in_err-flush-2-clause-err g c =
    let i = c.reads.invariant in
    let x = i.1 ++ c.reads.outbox.held.items in
    let f = c.in_default-finish.ensures.ok in
    let held : c.finish.new.outbox.held.items ≡ f.0 = nil_first _ f.0 _ c.in_ok-flush.ensures.none f.1 in
    let sent = Appends-then _ _ _ i.1 _ i.3 c.in_ok-flush.ensures.ok in
    let p = err_from_is_err_and c.from_residual-in_err-flush-2.result c.from_residual-in_err-flush-2.ensures.1 in
    rw (p.1, p.2, c.in_err-flush-2.ensures.kind) (last_unwritten g.F.Front.step g.F.Front.refuses _ _ _ _ _ _ _ _ x f.0 (x ++ c.finish.new.outbox.held.items) i.0 c.reads.partial.items _ _ _ _ _ _ _ i.2 c.in-Ok.ensures.bytes.0 (rw c.if-count-eq0.true refl) (c.in-Ok.ensures.bytes.1 c.if-count-eq0.true (omega arith))
    (AppendsPrefix-then _ _ _ x c.finish.new.outbox.held.items sent c.in_err-flush-2.ensures.err) (ap (λ (l : List ℕ). x ++ l) held) (rw (← c.flush.ensures.tally) at i.4) c.as_slice.ensures.value f.2)

pub returns-then-count-eq0-clause-ok : goal.returns-then-count-eq0-clause-ok
returns-then-count-eq0-clause-ok g c =
    let i = c.reads.invariant in
    let x = i.1 ++ c.reads.outbox.held.items in
    let f = c.in_default-finish.ensures.ok in
    let held : c.finish.new.outbox.held.items ≡ f.0 = nil_first _ f.0 _ c.in_ok-flush.ensures.none f.1 in
    let sent = Appends-then _ _ _ i.1 _ i.3 c.in_ok-flush.ensures.ok in
    rw c.flush-then-count-eq0.ensures.tally (all_answered g.F.Front.step _ _ _ _ _ _ _ _ x f.0 (x ++ c.finish.new.outbox.held.items) i.0 c.reads.partial.items _ _ _ _ _ _ _ i.2 c.in-Ok.ensures.bytes.0 (rw c.if-count-eq0.true refl) (c.in-Ok.ensures.bytes.1 c.if-count-eq0.true (omega arith))
    (Appends-then _ _ _ x c.finish.new.outbox.held.items sent c.in_ok-flush-2.ensures.ok) (ap (λ (l : List ℕ). x ++ l) held) (rw (← c.flush.ensures.tally) at i.4) c.as_slice.ensures.value c.in_default-finish.ensures.few f.2)

pub returns-in_err-take_piece-clause-err : goal.returns-in_err-take_piece-clause-err
returns-in_err-take_piece-clause-err g c =
    let i = c.reads.invariant in
    let x = i.1 ++ c.reads.outbox.held.items in
    let t = c.in_err-take_piece.ensures.err in
    let sent = Appends-then _ _ _ i.1 _ i.3 c.in_ok-flush.ensures.ok in
    let p = err_from_is_err_and c.from_residual-in_err-take_piece.result c.from_residual-in_err-take_piece.ensures.1 in
    rw (p.1, p.2) (piece_stopped g.F.Front.step g.F.Front.refuses c.in_err-take_piece.field-0.0 _ _ _ _ _ _ _ _ x t.0 i.0 c.reads.partial.items _ _ _ _ _ i.2 c.in-Ok.ensures.bytes.0 refl (Reaches-then c.in_err-take_piece.field-0.0 _ _ _ x t.0 sent t.1) (rw (← c.flush.ensures.tally) at i.4) t.2)

pub reads-preserved : goal.reads-preserved
reads-preserved g c =
    let i = c.reads.invariant in
    let x = i.1 ++ c.reads.outbox.held.items in
    let n = c.in-Ok.count in
    let chunk = c.read.new.buf in
    let t = c.in_ok-take_piece.ensures.ok in
    let sent = Appends-then _ _ _ i.1 _ i.3 c.in_ok-flush.ensures.ok in (
      i.0 ++ take n chunk,
      x ++ t.0,
      Consumes-then _ _ _ i.0 (take n chunk) i.2 c.in-Ok.ensures.bytes.0,
      Appends-then _ _ _ x t.0 sent t.1,
      piece_done g.F.Front.step _ _ _ x t.0 c.take_piece.new.outbox.held.items i.0 c.reads.partial.items _ (take n chunk) _ _ _ _ _ _ _ refl (rw (← c.flush.ensures.tally) at i.4) t.2,
      c.take_piece.ensures.ready,
    )

pub returns-clause-err : goal.returns-clause-err
returns-clause-err g c =
    let i = c.reads.invariant in
    let x = i.1 ++ c.reads.outbox.held.items in
    read_ended g.F.Front.step g.F.Front.refuses c.close-2.result _ _ _ _ _ _ x i.0 _ _ _ _ i.2 c.close-2.ensures.fault (Reaches-then c.close-2.result _ _ _ i.1 c.reads.outbox.held.items i.3 c.close-2.ensures.bytes) i.4
