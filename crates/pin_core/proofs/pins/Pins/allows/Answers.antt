use Rattle.plan_core.specs.Drafts.{routes_by}
use Rattle.plan_core.specs.Plan.{with_routes}
use Rattle.pin_core.proofs.Holding.{holding_from_touched}
use Rattle.pin_core.proofs.pins.Pins.allows.Goals as goal

pub returns-in-None : goal.returns-in-None
returns-in-None g c =
    let new = with_routes (routes_by g.R.NewRoute.draft c.args.plan.now.routes c.args.new_routes.now) c.args.plan.now.routes in (
      c.in_default.ensures,
      holding_from_touched c.args.self.now c.args.plan.now.routes new c.args.touched.now c.requires.holding c.requires.touched c.in-None.ensures,
    )
