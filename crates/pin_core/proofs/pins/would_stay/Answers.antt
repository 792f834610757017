use Rattle.plan_core.specs.Drafts.{drafted, routes_by}
use Rattle.pin_core.proofs.Standing.{stands_on_new}
use Rattle.pin_core.proofs.pins.would_stay.Goals as goal

pub returns-in-Some : goal.returns-in-Some
returns-in-Some g c =
    let law = c.routes_replaced.ensures in
    let routes = c.args.plan.now.routes in
    let at = c.in-Some.ensures.named routes in
    let new = stands_on_new law.count law.named (routes_by g.R.NewRoute.draft routes c.args.new_routes.now) routes at.0 c.args.customer c.args.vehicle (drafted routes (g.R.NewRoute.draft c.in-Some.new.now)) c.requires.apart at.1 in
    (λ yes. new.0 (c.is_drafted.ensures.0 yes), λ stands. c.is_drafted.ensures.1 (new.1 stands))
