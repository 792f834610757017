use Rattle.std.proofs.Common.{◌∙◌, ap, refl}
use Rattle.plan_core.specs.Plan.{changes_of}
use Rattle.board_state.proofs.NewRoutes.{again_more}
use Rattle.board_state.proofs.new_routes.shared.Goals as goal

pub loop-k-preserved : goal.loop-k-preserved
loop-k-preserved c =
    let x = c.index-changes-k.result in
    ap changes_of c.in_ok-push.ensures.items
    ∙ again_more c.loop-k.again.items c.args.changes.now c.loop-k.k (x.0, c.in_ok-route.route) x c.loop-k.invariant c.loop-k-test.true c.index-changes-k.is refl c.in_ok-route.ensures
