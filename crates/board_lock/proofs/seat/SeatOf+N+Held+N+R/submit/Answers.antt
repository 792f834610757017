use Rattle.std.proofs.Common.{◌+◌, ap, subst}
use Rattle.board_lock.specs.Commits.{Submitted, Faulted}
use Rattle.board_lock.specs.Watches.{Watch}
use Rattle.board_lock.proofs.Turns.{at_least}
use Rattle.board_lock.proofs.seat.SeatOf+N+Held+N+R.submit.Goals as goal

pub submit-answer-requires-clause-few : goal.submit-answer-requires-clause-few
submit-answer-requires-clause-few g c = c.self.invariant.3

pub invariant_of-self : goal.invariant_of-self
invariant_of-self g c =
    let old = c.self.invariant in
    (old.0, old.1, at_least _ _ c.in-Ok.ensures.ok.turns_are, c.in-Ok.ensures.few)

pub invariant_of-self-in-Err : goal.invariant_of-self-in-Err
invariant_of-self-in-Err g c =
    let old = c.self.invariant in
    (old.0, old.1, at_least _ _ c.in-Err.ensures.err.looked.turns_are, old.3)

pub returns-in-Ok-clause-ok : goal.returns-in-Ok-clause-ok
returns-in-Ok-clause-ok g c = (
  subst (λ (w : Watch). Submitted g.N.Naming.opening w.number w.own c.args.call c.in-Ok.reply w.seen c.submit-answer.new.eye.seen) c.self.view_is c.in-Ok.ensures.ok,
  ap (λ (w : Watch). w.own + 1) c.self.view_is,
)

pub returns-in-Err-clause-err : goal.returns-in-Err-clause-err
returns-in-Err-clause-err g c = (
  subst (λ (w : Watch). Faulted g.N.Naming.opening w.number w.own c.in-Err.fault w.seen c.submit-answer.new.eye.seen) c.self.view_is c.in-Err.ensures.err,
  ap (λ (w : Watch). w.own) c.self.view_is,
)
