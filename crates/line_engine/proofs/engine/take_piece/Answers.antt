use Rattle.std.proofs.Common.{◌≡◌, [], ◌++◌, refl}
use Rattle.std.proofs.lemmas.List.{append-nil}
use Rattle.std.proofs.lemmas.Result.{err_from_is_err_and}
use Rattle.line_engine.proofs.Bytes.{Appends-none, Appends-then}
use Rattle.line_engine.proofs.Runs.{nothing_yet}
use Rattle.line_engine.proofs.Sending.{Reaches-then, AppendsPrefix-then, sent_all, part_taken, part_stopped, part_unwritten, part_whole, behind, none_of, some_of, whole_piece}
use Rattle.line_engine.proofs.engine.take_piece.Goals as goal

pub parts-init : goal.parts-init
parts-init g c =
    let none : [] ++ c.args.outbox.now.held.items ≡ [] = c.requires.none in
    ([], [], refl, c.requires.ready, Appends-none _, rw (append-nil c.args.partial.now.items, none) (nothing_yet g.F.Front.step _ _ _ _ _ c.requires.line))

pub returns-in-Err-clause-err : goal.returns-in-Err-clause-err
returns-in-Err-clause-err g c =
    let i = c.parts.invariant in (
      i.1 ++ c.feed.new.outbox.held.items,
      Reaches-then c.close.result _ _ _ i.1 c.feed.new.outbox.held.items i.4 c.close.ensures.bytes,
      part_stopped g.F.Front.step g.F.Front.refuses c.in-Err.fault c.close.result _ _ _ i.1 _ _ c.args.partial.now.items c.args.piece.now i.0 c.parts.left.now c.parts.partial.items _ _ _ _ _ _ i.2 i.5 c.in-Err.ensures.err c.close.ensures.fault,
    )

pub parts-preserved-in-Continue-1 : goal.parts-preserved-in-Continue-1
parts-preserved-in-Continue-1 g c =
    let i = c.parts.invariant in
    let f = c.in-Ok.ensures.ok in
    let held = c.feed.new.outbox.held.items in
    let p = part_taken g.F.Front.step _ _ _ i.1 _ held c.args.partial.now.items i.0 c.parts.partial.items f.0 _ _ _ _ _ _ _ _ _ _ i.5 f.2 in (
      i.0 ++ f.0,
      i.1 ++ held,
      behind _ i.0 _ f.0 _ i.2 f.1,
      c.feed.ensures.ready,
      Appends-then _ _ _ i.1 held i.4 c.in_ok-hand_on.ensures.ok,
      rw (c.hand_on.ensures.tally, sent_all i.1 held _ c.in_ok-hand_on.ensures.none) p,
    )

pub returns-in_err-hand_on-clause-err : goal.returns-in_err-hand_on-clause-err
returns-in_err-hand_on-clause-err g c =
    let i = c.parts.invariant in
    let f = c.in-Ok.ensures.ok in
    let held = c.feed.new.outbox.held.items in
    let p = part_taken g.F.Front.step _ _ _ i.1 _ held c.args.partial.now.items i.0 c.parts.partial.items f.0 _ _ _ _ _ _ _ _ _ _ i.5 f.2 in
    let r = err_from_is_err_and c.from_residual.result c.from_residual.ensures.1 in
    rw (r.1, r.2, c.in_err-hand_on.ensures.kind) (
      i.1 ++ held,
      AppendsPrefix-then _ _ _ i.1 held i.4 c.in_err-hand_on.ensures.err,
      part_unwritten g.F.Front.step g.F.Front.refuses _ _ (i.1 ++ held) c.args.partial.now.items c.args.piece.now (i.0 ++ f.0) _ _ _ _ _ _ _ _ (behind _ i.0 _ f.0 _ i.2 f.1) p,
    )

pub parts-preserved : goal.parts-preserved
parts-preserved g c =
    let i = c.parts.invariant in
    let f = c.in-Ok.ensures.ok in
    let held = c.feed.new.outbox.held.items in (
      i.0 ++ f.0,
      i.1,
      behind _ i.0 _ f.0 _ i.2 f.1,
      c.feed.ensures.ready,
      i.4,
      part_taken g.F.Front.step _ _ _ i.1 _ held c.args.partial.now.items i.0 c.parts.partial.items f.0 _ _ _ _ _ _ _ _ _ _ i.5 f.2,
    )

pub feed-requires : goal.feed-requires
feed-requires g c =
    let i = c.parts.invariant in
    record { line = i.5.cut.partial; ready = i.3 }

pub parts-smaller : goal.parts-smaller
parts-smaller g c = c.in-Ok.ensures.shorter (some_of _ c.parts-test.ensures)

pub parts-smaller-in-Continue-1 : goal.parts-smaller-in-Continue-1
parts-smaller-in-Continue-1 g c = c.in-Ok.ensures.shorter (some_of _ c.parts-test.ensures)

pub returns : goal.returns
returns g c =
    let i = c.parts.invariant in
    let all = whole_piece c.args.piece.now i.0 _ i.2 (none_of c.parts.left.now c.parts-test.ensures) in
    record { ready = i.3; ok = (i.1, i.4, part_whole g.F.Front.step _ _ _ c.args.partial.now.items i.0 _ _ _ _ _ _ _ _ all i.5); err = tt }
