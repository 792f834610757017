use Rattle.std.proofs.Common.{◌≡◌, ◌≤◌, ◌∙◌, ℕ, length, slice_get, Some, sym, subst, true, false}
use Rattle.plan_core.specs.Drafts.{drafted, routes_by}
use Rattle.plan_core.specs.Plan.{with_routes, route_at}
use Rattle.plan_core.specs.Commits.{named_vehicles}
use Rattle.pin_core.specs.Pins.{IsFrontKept}
use Rattle.pin_core.proofs.Standing.{before_more, before_all, apart_at, draft_read, named_read, length-named}
use Rattle.pin_core.proofs.Fronts.{freezes_from_named, front_from_new, new_from_front}
use Rattle.pin_core.proofs.pins.Pins.first_thawed.Goals as goal

pub keeps_front-requires-clause-low : goal.keeps_front-requires-clause-low
keeps_front-requires-clause-low g c =
    let routes = c.args.plan.now.routes in
    (apart_at (routes_by g.R.NewRoute.draft routes c.args.new_routes.now) (length routes) c.loop-new.new-index _ c.requires.apart
    (draft_read g.R.NewRoute.draft routes c.args.new_routes.now c.loop-new.new-index c.new-item.result c.loop-new-test.true c.new-item.is)).0

pub keeps_front-requires-clause-high : goal.keeps_front-requires-clause-high
keeps_front-requires-clause-high g c =
    let routes = c.args.plan.now.routes in
    (apart_at (routes_by g.R.NewRoute.draft routes c.args.new_routes.now) (length routes) c.loop-new.new-index _ c.requires.apart
    (draft_read g.R.NewRoute.draft routes c.args.new_routes.now c.loop-new.new-index c.new-item.result c.loop-new-test.true c.new-item.is)).1

pub returns-then-not-keeps_front : goal.returns-then-not-keeps_front
returns-then-not-keeps_front g c =
    let d = g.R.NewRoute.draft c.new-item.result in
    let routes = c.args.plan.now.routes in
    let changes = routes_by g.R.NewRoute.draft routes c.args.new_routes.now in
    let new = with_routes changes routes in
    let read = draft_read g.R.NewRoute.draft routes c.args.new_routes.now c.loop-new.new-index c.new-item.result c.loop-new-test.true c.new-item.is in
    let own : route_at new d.vehicle ≡ drafted routes d = c.routes_replaced.ensures.named changes routes c.loop-new.new-index _ c.requires.apart read in
    let fails : ¬ IsFrontKept c.args.self.now routes new d.vehicle = λ kept.
    let yes : c.keeps_front.result ≡ true = c.keeps_front.ensures.1 (new_from_front c.args.self.now routes new d.vehicle (drafted routes d) own kept) in
    let both : true ≡ false = sym yes ∙ c.if-not-keeps_front.true in
    cc in
    let named = named_read g.R.NewRoute.draft routes c.args.new_routes.now c.loop-new.new-index c.new-item.result c.loop-new-test.true c.new-item.is in (
      c.loop-new.new-index,
      record {
        found = subst (λ (v : ℕ). slice_get (named_vehicles changes) c.loop-new.new-index ≡ Some v) (sym c.named.ensures) named;
        fails = subst (λ (v : ℕ). ¬ IsFrontKept c.args.self.now routes new v) (sym c.named.ensures) fails;
        before = c.loop-new.invariant;
      },
    )

pub loop-new-preserved : goal.loop-new-preserved
loop-new-preserved g c =
    let d = g.R.NewRoute.draft c.new-item.result in
    let routes = c.args.plan.now.routes in
    let changes = routes_by g.R.NewRoute.draft routes c.args.new_routes.now in
    let new = with_routes changes routes in
    let read = draft_read g.R.NewRoute.draft routes c.args.new_routes.now c.loop-new.new-index c.new-item.result c.loop-new-test.true c.new-item.is in
    let own : route_at new d.vehicle ≡ drafted routes d = c.routes_replaced.ensures.named changes routes c.loop-new.new-index _ c.requires.apart read in
    before_more (IsFrontKept c.args.self.now routes new) (named_vehicles changes) c.loop-new.new-index d.vehicle
    (named_read g.R.NewRoute.draft routes c.args.new_routes.now c.loop-new.new-index c.new-item.result c.loop-new-test.true c.new-item.is)
    (front_from_new c.args.self.now routes new d.vehicle (drafted routes d) own (c.keeps_front.ensures.0 c.if-not-keeps_front.false))
    c.loop-new.invariant

pub returns : goal.returns
returns g c =
    let routes = c.args.plan.now.routes in
    let changes = routes_by g.R.NewRoute.draft routes c.args.new_routes.now in
    let long : length (named_vehicles changes) ≤ c.loop-new.new-index = rw (length-named g.R.NewRoute.draft routes c.args.new_routes.now) c.loop-new-test.false in
    let new = with_routes changes routes in
    freezes_from_named c.routes_replaced.ensures.others c.args.self.now changes routes c.requires.apart
    (before_all (IsFrontKept c.args.self.now routes new) (named_vehicles changes) c.loop-new.new-index long c.loop-new.invariant)
