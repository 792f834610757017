use Rattle.std.proofs.Common.{◌∙◌, subst}
use Rattle.plan_core.specs.Plan.{AreSizes}
use Rattle.board_state.specs.Held.{HeldState}
use Rattle.board_state.proofs.Stepping.{agree}
use Rattle.board_state.proofs.state.State.agrees.Goals as goal

pub returns : goal.returns
returns c s state holds sized session =
    let sizes = subst (λ (h : HeldState). AreSizes h.plan) c.self.view_is c.version-sizes.ensures.sizes in
    agree s c.args.self.now state holds c.changes_by_stamps.ensures.stamp (sizes.stamps ∙ sized) session
