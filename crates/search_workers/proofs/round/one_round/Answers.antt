use Rattle.std.proofs.Common.{ℕ, subst, sym}
use Rattle.search_workers.specs.Jobs.{job_of, view_after}
use Rattle.search_workers.specs.Rounds.{IsBestIn}
use Rattle.search_workers.specs.Steps.{IsFound, IsDone}
use Rattle.search_workers.proofs.Looking.{best_in, none_in}
use Rattle.search_workers.proofs.Going.{done_refused, done_idle, done_from}
use Rattle.search_workers.proofs.round.one_round.Goals as goal

pub returns-in-Err-clause-done : goal.returns-in-Err-clause-done
returns-in-Err-clause-done g c done number skipped =
    let job = job_of g.N.Naming.opening c.args.seat.now.number c.args.attempt.now.order.session c.args.attempt.now.order.seed in
    let skips = c.look.new.search.skips in
    done_refused job done c.args.seat.now c.look.new.seat skips.version skips.moves.items c.look.ensures.grows c.look.ensures.kept.0 c.look.ensures.kept.1 (c.look.ensures.skipped done skipped)

pub returns-in-Ok-None-clause-done : goal.returns-in-Ok-None-clause-done
returns-in-Ok-None-clause-done g c done number skipped =
    let o = g.N.Naming.opening in
    let job = job_of o c.args.seat.now.number c.args.attempt.now.order.session c.args.attempt.now.order.seed in
    let seat = c.look.new.seat in
    let skips = c.look.new.search.skips in
    let kept = c.look.ensures.skipped done skipped in
    let idle = subst (IsFound o.setting (view_after o seat.seen) skips.moves.items c.args.drawn.first c.args.drawn.second) c.in-Ok-None.field-0-is c.in-Ok-None.ensures.found in
    let none = none_in job done seat.seen skips.version c.args.attempt.now.number c.args.drawn.first c.args.drawn.second skips.moves.items c.in-Ok-None.ensures.turned kept number c.requires.first c.requires.second idle in
    done_idle job done c.args.seat.now seat skips.version skips.moves.items c.look.ensures.grows c.look.ensures.kept.0 c.look.ensures.kept.1 none kept

pub returns-in-Ok-Some-clause-done : goal.returns-in-Ok-Some-clause-done
returns-in-Ok-Some-clause-done g c done number skipped =
    let o = g.N.Naming.opening in
    let order = c.args.attempt.now.order in
    let job = job_of o c.args.seat.now.number order.session order.seed in
    let seat = c.look.new.seat in
    let skips = c.look.new.search.skips in
    let after = c.propose.new.skips in
    let found = c.in-Ok-Some.found in
    let kept = c.look.ensures.skipped done skipped in
    let there = subst (IsFound o.setting (view_after o seat.seen) skips.moves.items c.args.drawn.first c.args.drawn.second) c.in-Ok-Some.field-0-is c.in-Ok-Some.ensures.found in
    let best = best_in job done seat.seen skips.version c.args.attempt.now.number c.args.drawn.first c.args.drawn.second skips.moves.items found.mv found.gain c.in-Ok-Some.ensures.turned kept number c.requires.first c.requires.second there.0 in
    let same = c.look.ensures.kept.0 in
    let one = c.propose.ensures.done done kept (subst (λ (n : ℕ). IsBestIn (job_of o n order.session order.seed) done seat.seen found.mv found.gain) (sym same) best) in
    let two = subst (λ (n : ℕ). IsDone (job_of o n order.session order.seed) done seat c.propose.new.seat after.version after.moves.items c.propose.result) same one in
    done_from job done c.args.seat.now seat c.propose.new.seat after.version after.moves.items c.propose.result c.look.ensures.grows same c.look.ensures.kept.1 two
