use Rattle.plan_core.specs.Drafts.{routes_by}
use Rattle.plan_core.specs.Plan.{with_routes}
use Rattle.plan_core.specs.declared.touch.Touch.{Touch}
use Rattle.pin_core.specs.Pins.{IsHeld}
use Rattle.std.proofs.lemmas.Option.{slice_get-get_or}
use Rattle.pin_core.proofs.Passing.{none_before}
use Rattle.pin_core.proofs.Standing.{before_more, before_all}
use Rattle.pin_core.proofs.pins.Pins.first_loose.Goals as goal

pub loop-touch-init : goal.loop-touch-init
loop-touch-init g c = none_before (λ (t : Touch). IsHeld c.args.self.now (with_routes (routes_by g.R.NewRoute.draft c.args.plan.now.routes c.args.new_routes.now) c.args.plan.now.routes) t.customer) c.args.touched.now

pub leaves_near-requires : goal.leaves_near-requires
leaves_near-requires g c =
    let known = c.requires.known c.loop-touch.touch-index (record { vehicle = 0; place = 0; customer = 0 }) c.loop-touch-test.true in
    record { low = known.0; high = known.1; holding = c.requires.holding; fronts = c.requires.fronts; apart = c.requires.apart }

pub returns-then-leaves_near : goal.returns-then-leaves_near
returns-then-leaves_near g c = (
  c.loop-touch.touch-index,
  record { found = slice_get-get_or c.args.touched.now c.loop-touch.touch-index _ c.loop-touch-test.true; fails = c.if-leaves_near.ensures; before = c.loop-touch.invariant },
)

pub loop-touch-preserved : goal.loop-touch-preserved
loop-touch-preserved g c =
    before_more (λ (t : Touch). IsHeld c.args.self.now (with_routes (routes_by g.R.NewRoute.draft c.args.plan.now.routes c.args.new_routes.now) c.args.plan.now.routes) t.customer) c.args.touched.now c.loop-touch.touch-index
    _ (slice_get-get_or c.args.touched.now c.loop-touch.touch-index _ c.loop-touch-test.true) c.if-leaves_near.ensures c.loop-touch.invariant

pub returns : goal.returns
returns g c =
    before_all (λ (t : Touch). IsHeld c.args.self.now (with_routes (routes_by g.R.NewRoute.draft c.args.plan.now.routes c.args.new_routes.now) c.args.plan.now.routes) t.customer) c.args.touched.now c.loop-touch.touch-index
    c.loop-touch-test.false c.loop-touch.invariant
