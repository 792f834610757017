use Rattle.std.proofs.Common.{◌≡◌, ◌∙◌, sym, arith, length, []}
use Rattle.std.proofs.lemmas.List.{append-nil}
use Rattle.std.proofs.lemmas.Bool.Decides.{nat_tests}
use Rattle.std.proofs.lemmas.Result.{err_from_is_err_and}
use Rattle.line_engine.proofs.Runs.{is_full, take_done, take_broken, keep_broken, short_line, nil_of, behind_none, same_held}
use Rattle.line_engine.proofs.engine.take_line.Goals as goal

pub returns-then-is_full-clause-err : goal.returns-then-is_full-clause-err
returns-then-is_full-clause-err g c =
    let e : c.args.outbox.now.tally.seen ≡ 4294967296 = grind (arith, nat_tests) in
    ([], sym (append-nil _), is_full g.F.Front.step g.F.Front.refuses _ _ _ e)

pub returns-in_err-serve_whole-clause-err : goal.returns-in_err-serve_whole-clause-err
returns-in_err-serve_whole-clause-err g c =
    let p = err_from_is_err_and c.from_residual.result c.from_residual.ensures.1 in
    let none : length c.args.partial.now.items ≡ 0 = grind (arith, nat_tests) in
    rw (p.1, p.2) ([], same_held _ _ c.in_err-serve_whole.ensures.held, take_broken g.F.Front.step g.F.Front.refuses _ _ _ c.args.partial.now.items c.args.more.now c.args.more.now _ (short_line _ c.requires.plain (omega arith)) (behind_none _ _ none) c.in_err-serve_whole.ensures.err)

pub returns-then-is_returned-clause-ok : goal.returns-then-is_returned-clause-ok
returns-then-is_returned-clause-ok g c =
    let none : length c.args.partial.now.items ≡ 0 = grind (arith, nat_tests) in
    let s = c.in_ok-serve_whole.ensures.ok in
    (s.0, s.1, take_done g.F.Front.step _ _ _ c.args.partial.now.items c.args.more.now c.args.more.now _ _ _ _ _ _ _ (short_line _ c.requires.plain (omega arith)) (behind_none _ _ none) (nil_of _ none) s.2)

pub returns-in_err-serve-clause-err : goal.returns-in_err-serve-clause-err
returns-in_err-serve-clause-err g c =
    let p = err_from_is_err_and c.from_residual-in_err-serve.result c.from_residual-in_err-serve.ensures.1 in
    let none : length c.args.partial.now.items ≡ 0 = grind (arith, nat_tests) in
    rw (p.1, p.2) ([], same_held _ _ c.in_err-serve.ensures.held, take_broken g.F.Front.step g.F.Front.refuses _ _ _ c.args.partial.now.items c.args.more.now c.args.more.now _ (short_line _ c.requires.plain (omega arith)) (behind_none _ _ none) c.in_err-serve.ensures.err)

pub returns-then-more-le-LONGEST_LINE-clause-ok : goal.returns-then-more-le-LONGEST_LINE-clause-ok
returns-then-more-le-LONGEST_LINE-clause-ok g c =
    let none : length c.args.partial.now.items ≡ 0 = grind (arith, nat_tests) in
    let s = c.in_ok-serve.ensures.ok in
    (s.0, s.1, take_done g.F.Front.step _ _ _ c.args.partial.now.items c.args.more.now c.args.more.now _ _ _ _ _ _ _ (short_line _ c.requires.plain (omega arith)) (behind_none _ _ none) (nil_of _ none) s.2)

pub returns-in_err-keep-clause-err : goal.returns-in_err-keep-clause-err
returns-in_err-keep-clause-err g c =
    let p = err_from_is_err_and c.from_residual-in_err-keep.result c.from_residual-in_err-keep.ensures.1 in
    rw (p.1, p.2) ([], sym (append-nil _), keep_broken g.F.Front.step g.F.Front.refuses _ _ c.args.partial.now.items c.args.more.now _ _ c.requires.line c.requires.plain c.in_err-keep.ensures.err)

pub returns-in_err-serve_whole-2-clause-err : goal.returns-in_err-serve_whole-2-clause-err
returns-in_err-serve_whole-2-clause-err g c =
    let p = err_from_is_err_and c.from_residual-in_err-serve_whole-2.result c.from_residual-in_err-serve_whole-2.ensures.1 in
    let k = c.in_ok-keep.ensures.ok in
    let same = c.as_slice.ensures.value in
    rw (p.1, p.2) ([], same_held _ _ c.in_err-serve_whole-2.ensures.held, take_broken g.F.Front.step g.F.Front.refuses _ _ _ c.args.partial.now.items c.args.more.now c.as_slice.result.now _ (rw same k.1) (same ∙ k.0) c.in_err-serve_whole-2.ensures.err)

pub returns-clause-ok : goal.returns-clause-ok
returns-clause-ok g c =
    let k = c.in_ok-keep.ensures.ok in
    let same = c.as_slice.ensures.value in
    let s = c.in_ok-serve_whole-2.ensures.ok in
    (s.0, s.1, take_done g.F.Front.step _ _ _ c.args.partial.now.items c.args.more.now c.as_slice.result.now _ _ _ _ _ _ _ (rw same k.1) (same ∙ k.0) c.clear.ensures.items s.2)
