use Rattle.std.proofs.Common.{sym, subst}
use Rattle.plan_core.specs.Plan.{Changes}
use Rattle.board_rules.specs.Delta.{AreRoutesOf}
use Rattle.board_state.proofs.NewRoutes.{routes_right, ok_then}
use Rattle.board_state.proofs.change.Judged.new_routes.Goals as goal

pub returns : goal.returns
returns c s state next holds will =
    let judged = c.args.self.now in
    let right = routes_right s judged.of judged.change state next c.shared_routes.ensures.sizes c.shared_routes.ensures.ready holds will in
    ok_then _ _ c.shared_routes.result (λ routes e. subst (λ (changes : Changes). AreRoutesOf state next changes) (sym e) right) c.shared_routes.ensures.routes
