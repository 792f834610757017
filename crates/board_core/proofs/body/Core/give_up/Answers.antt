use Rattle.std.proofs.Common.{ap, subst}
use Rattle.board_state.specs.Changes.{GivesUp}
use Rattle.board_core.specs.Kept.{CoreState}
use Rattle.board_core.proofs.Keeping.{kept_same, gives_up_tries}
use Rattle.board_core.proofs.body.Core.give_up.Goals as goal

pub returns-clause-held : goal.returns-clause-held
returns-clause-held c = subst (λ (x : CoreState). GivesUp x.held c.give_up.new.self) c.self.view_is c.give_up.ensures.all

pub returns-clause-kept : goal.returns-clause-kept
returns-clause-kept c s kept =
    kept_same s c.args.self.now _ kept (ap (λ (x : CoreState). x.journal) c.self.view_is) (ap (λ (x : CoreState). x.turns) c.self.view_is)
    (gives_up_tries c.args.self.now.held c.give_up.new.self (subst (λ (x : CoreState). GivesUp x.held c.give_up.new.self) c.self.view_is c.give_up.ensures.all))
