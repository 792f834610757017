use Rattle.std.proofs.Common.{below_more}
use Rattle.plan_core.specs.Drafts.{routes_by}
use Rattle.plan_core.specs.Plan.{with_routes}
use Rattle.pin_core.specs.Override.{IsPassed}
use Rattle.pin_core.proofs.Passing.{in_both, none_passed, passed_free, passed_held, forbidden_at, all_passed}
use Rattle.pin_core.proofs.pins.Pins.first_forbidden.Goals as goal

pub loop-k-init : goal.loop-k-init
loop-k-init g c = none_passed c.args.self.now (with_routes (routes_by g.R.NewRoute.draft c.args.plan.now.routes c.args.new_routes.now) c.args.plan.now.routes) c.args.touched.now c.args.free.now

pub bounds-touched-k : goal.bounds-touched-k
bounds-touched-k g c = c.loop-k-test.true

pub bounds-free-k : goal.bounds-free-k
bounds-free-k g c = in_both _ _ _ c.requires.free c.loop-k-test.true

pub loop-k-preserved-then-free-k : goal.loop-k-preserved-then-free-k
loop-k-preserved-then-free-k g c =
    let others = with_routes (routes_by g.R.NewRoute.draft c.args.plan.now.routes c.args.new_routes.now) c.args.plan.now.routes in
    below_more (IsPassed c.args.self.now others c.args.touched.now c.args.free.now) c.loop-k.k c.loop-k.invariant
    (passed_free c.args.self.now others c.args.touched.now c.args.free.now c.loop-k.k _ (in_both _ _ _ c.requires.free c.loop-k-test.true) c.if-free-k.true)

pub leaves_near-requires : goal.leaves_near-requires
leaves_near-requires g c =
    let known = c.requires.known c.loop-k.k (record { vehicle = 0; place = 0; customer = 0 }) c.loop-k-test.true in
    record { low = known.0; high = known.1; holding = c.requires.holding; fronts = c.requires.fronts; apart = c.requires.apart }

pub returns-then-leaves_near : goal.returns-then-leaves_near
returns-then-leaves_near g c =
    forbidden_at c.args.self.now (with_routes (routes_by g.R.NewRoute.draft c.args.plan.now.routes c.args.new_routes.now) c.args.plan.now.routes) c.args.touched.now c.args.free.now c.loop-k.k (record { vehicle = 0; place = 0; customer = 0 }) _
    c.loop-k-test.true (in_both _ _ _ c.requires.free c.loop-k-test.true) c.if-free-k.false c.if-leaves_near.ensures c.loop-k.invariant

pub loop-k-preserved : goal.loop-k-preserved
loop-k-preserved g c =
    let others = with_routes (routes_by g.R.NewRoute.draft c.args.plan.now.routes c.args.new_routes.now) c.args.plan.now.routes in
    below_more (IsPassed c.args.self.now others c.args.touched.now c.args.free.now) c.loop-k.k c.loop-k.invariant
    (passed_held c.args.self.now others c.args.touched.now c.args.free.now c.loop-k.k _ c.loop-k-test.true c.if-leaves_near.ensures)

pub returns : goal.returns
returns g c =
    all_passed c.args.self.now (with_routes (routes_by g.R.NewRoute.draft c.args.plan.now.routes c.args.new_routes.now) c.args.plan.now.routes) c.args.touched.now c.args.free.now c.loop-k.k c.loop-k-test.false c.loop-k.invariant
