use Rattle.std.proofs.Common.{sym, ap, subst}
use Rattle.board_state.specs.declared.change.Change.{Change}
use Rattle.board_state.specs.Changes.{WillHold, JudgedState, IsGivenUp}
use Rattle.board_state.proofs.state.State.settle.Goals as goal

pub returns-clause-holds : goal.returns-clause-holds
returns-clause-holds c s next will =
    c.enact.ensures.holds s next (subst (λ (x : Change). WillHold s c.args.self.now x next) (sym (ap (λ (j : JudgedState). j.change) c.judged.view_is)) will)

pub returns-clause-untried : goal.returns-clause-untried
returns-clause-untried c given =
    c.enact.ensures.untried (subst (λ (x : Change). IsGivenUp x c.args.self.now.policy) (sym (ap (λ (j : JudgedState). j.change) c.judged.view_is)) given)
