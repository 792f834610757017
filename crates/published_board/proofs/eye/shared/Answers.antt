use Rattle.std.proofs.Common.{ap, ◌∙◌}
use Rattle.std.proofs.lemmas.List.{take_all}
use Rattle.plan_core.specs.Plan.{routes_of}
use Rattle.published_board.proofs.Loops.{mapped_more}
use Rattle.published_board.proofs.eye.shared.Goals as goal

pub loop-route-preserved : goal.loop-route-preserved
loop-route-preserved c =
    mapped_more (λ r. r.value) (λ r. r.value) c.args.routes.now c.loop-route.route-index c.route-item.result c.loop-route.made.items c.push.new.self.items c.in-Ok.route
    c.loop-route-test.true c.route-item.is c.loop-route.invariant c.in_ok-push.ensures.items c.in-Ok.ensures

pub returns : goal.returns
returns c = c.loop-route.invariant ∙ ap routes_of (take_all c.loop-route.route-index c.args.routes.now c.loop-route-test.false)
