use Rattle.std.proofs.Common.{◌∙◌, sym}
use Rattle.plan_core.specs.Drafts.{routes_by}
use Rattle.plan_core.specs.Plan.{with_routes}
use Rattle.pin_core.proofs.Passing.{held_none, held_by}
use Rattle.pin_core.proofs.pins.Pins.leaves_near.Goals as goal

pub pinned-requires : goal.pinned-requires
pinned-requires g c = record { low = c.requires.low; high = c.requires.high }

pub would_stay-requires : goal.would_stay-requires
would_stay-requires g c = record {
  fronts = c.requires.fronts;
  stands = c.requires.holding c.args.customer c.requires.low c.in-Some.vehicle (sym c.pinned.ensures ∙ c.in-Some.is);
  apart = c.requires.apart;
}

pub returns-in-None : goal.returns-in-None
returns-in-None g c = held_none c.args.self.now (with_routes (routes_by g.R.NewRoute.draft c.args.plan.now.routes c.args.new_routes.now) c.args.plan.now.routes) c.args.customer _ c.pinned.ensures c.in-None.is

pub returns-in-Some : goal.returns-in-Some
returns-in-Some g c =
    held_by c.args.self.now (with_routes (routes_by g.R.NewRoute.draft c.args.plan.now.routes c.args.new_routes.now) c.args.plan.now.routes) c.args.customer c.in-Some.vehicle c.would_stay.result (sym c.pinned.ensures ∙ c.in-Some.is) c.would_stay.ensures
