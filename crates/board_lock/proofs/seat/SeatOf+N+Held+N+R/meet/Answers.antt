use Rattle.std.proofs.Common.{subst}
use Rattle.board_lock.specs.Commits.{Looked}
use Rattle.board_lock.specs.Watches.{Watch}
use Rattle.board_lock.proofs.Turns.{at_least}
use Rattle.board_lock.proofs.seat.SeatOf+N+Held+N+R.meet.Goals as goal

pub invariant_of-self : goal.invariant_of-self
invariant_of-self g c =
    let old = c.self.invariant in
    (old.0, old.1, at_least _ _ c.meet.ensures.looked.turns_are, old.3)

pub invariant_of-other : goal.invariant_of-other
invariant_of-other g c =
    let old = c.other.invariant in
    (old.0, old.1, at_least _ _ c.meet.ensures.other_looked.turns_are, old.3)

pub returns-clause-looked : goal.returns-clause-looked
returns-clause-looked g c = subst (λ (w : Watch). Looked g.N.Naming.opening w.number w.own w.seen c.meet.new.eye.seen) c.self.view_is c.meet.ensures.looked

pub returns-clause-other_looked : goal.returns-clause-other_looked
returns-clause-other_looked g c = subst (λ (w : Watch). Looked g.N.Naming.opening w.number w.own w.seen c.meet.new.other.seen) c.other.view_is c.meet.ensures.other_looked
