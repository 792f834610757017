use Rattle.std.proofs.Common.{◌≡◌, ◌<◌, length, [], arith, refl, sym}
use Rattle.std.proofs.lemmas.List.{append-nil}
use Rattle.std.proofs.lemmas.Bool.Decides.{nat_tests}
use Rattle.std.proofs.lemmas.Result.{err_from_is_err_and}
use Rattle.line_engine.proofs.Runs.{finished, nothing_left, no_last, one_last, last_broken}
use Rattle.line_engine.proofs.engine.finish.Goals as goal

pub returns-then-is_empty-clause-ok : goal.returns-then-is_empty-clause-ok
returns-then-is_empty-clause-ok g c =
    let none : length c.args.partial.now ≡ 0 = grind (arith, nat_tests) in
    ([], sym (append-nil _), nothing_left g.F.Front.step _ _ _ _ none)

pub returns-then-is_empty-clause-few : goal.returns-then-is_empty-clause-few
returns-then-is_empty-clause-few g c =
    let none : length c.args.partial.now ≡ 0 = grind (arith, nat_tests) in
    let nothing = no_last c.args.partial.now none in
    omega (arith, nothing, c.args.outbox.now.tally.limited)

pub returns-then-is_full-clause-err : goal.returns-then-is_full-clause-err
returns-then-is_full-clause-err g c =
    let e : c.args.outbox.now.tally.seen ≡ 4294967296 = grind (arith, nat_tests) in
    (refl, e)

pub returns-in_err-serve_whole-clause-err : goal.returns-in_err-serve_whole-clause-err
returns-in_err-serve_whole-clause-err g c =
    let p = err_from_is_err_and c.from_residual.result c.from_residual.ensures.1 in
    rw (p.1, p.2) (last_broken g.F.Front.step g.F.Front.refuses _ _ _ c.args.partial.now _ c.in_err-serve_whole.ensures.err)

pub returns-clause-ok : goal.returns-clause-ok
returns-clause-ok g c =
    let some : 0 < length c.args.partial.now = grind (arith, nat_tests) in
    let s = c.in_ok-serve_whole.ensures.ok in
    (s.0, s.1, finished g.F.Front.step _ _ _ c.args.partial.now _ _ _ _ _ _ some s.2)

pub returns-clause-few : goal.returns-clause-few
returns-clause-few g c =
    let room : c.args.outbox.now.tally.seen < 4294967296 = grind (arith, nat_tests) in
    omega (arith, room, one_last c.args.partial.now)
