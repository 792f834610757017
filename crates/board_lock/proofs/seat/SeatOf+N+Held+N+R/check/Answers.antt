use Rattle.std.proofs.Common.{subst}
use Rattle.board_lock.specs.Commits.{Looked}
use Rattle.board_lock.specs.Watches.{Watch}
use Rattle.board_lock.proofs.Turns.{at_least}
use Rattle.board_lock.proofs.seat.SeatOf+N+Held+N+R.check.Goals as goal

pub invariant_of-self : goal.invariant_of-self
invariant_of-self g c =
    let old = c.self.invariant in
    (old.0, old.1, at_least _ _ c.check-answer.ensures.looked.turns_are, old.3)

pub returns-clause-looked : goal.returns-clause-looked
returns-clause-looked g c = subst (λ (w : Watch). Looked g.N.Naming.opening w.number w.own w.seen c.check-answer.new.eye.seen) c.self.view_is c.check-answer.ensures.looked
