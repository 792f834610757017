use Rattle.std.proofs.Common.{◌∙◌}
use Rattle.plan_core.proofs.KnownRoutes.{empty_more}
use Rattle.plan_core.proofs.plan.empty_routes.Goals as goal

pub loop-preserved : goal.loop-preserved
loop-preserved c =
    empty_more c.push.new.self.items c.loop.routes.items _ c.in_ok-route.route c.in_ok-push.ensures.items (c.in_ok-route.ensures.ok ∙ c.new-in-loop.ensures ∙ c.new.ensures.items)
    c.loop.invariant
