use Rattle.std.proofs.Common.{sym, subst}
use Rattle.board_rules.specs.History.{state_after}
use Rattle.board_state.specs.Held.{Holds}
use Rattle.board_core.specs.Kept.{CoreState}
use Rattle.board_core.proofs.body.Core.check.Goals as goal

pub returns : goal.returns
returns c s kept =
    let core = c.args.self.now in
    c.check.ensures s (state_after s core.journal) (subst (λ (x : CoreState). Holds s x.held (state_after s core.journal)) (sym c.self.view_is) kept.held)
