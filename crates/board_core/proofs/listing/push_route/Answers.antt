use Rattle.std.proofs.Common.{◌≡◌, ◌+◌, ◌≤◌, ℕ, List, length, refl, sym, ap, ◌∙◌, subst, arith}
use Rattle.std.proofs.lemmas.List.{take_all}
use Rattle.dimension_core.specs.Setup.{setting}
use Rattle.plan_core.specs.Plan.{PlanState, route_at}
use Rattle.move_core.specs.Touched.{touches}
use Rattle.board_core.specs.Shown.{Grows}
use Rattle.board_core.proofs.Listings.{grows_none, place_seen, place_past, vehicle_past}
use Rattle.board_core.proofs.Stops.{fleet, next_within, same_route, some_next, stop_at}
use Rattle.board_core.proofs.listing.push_route.Goals as goal
use Rattle.board_core.proofs.listing.push_route.Goals.{then-check_in+in_ok-push, else-check_in}

pub returns-then-not-check_in : goal.returns-then-not-check_in
returns-then-not-check_in g c = λ board holds.
    let s = setting c.args.setup.now in
    vehicle_past s board c.args.session c.args.vehicle (route_at board.routes c.args.vehicle) c.args.rows.now.items c.requires.low
    (sym (c.check_in.ensures s board c.args.session holds c.requires.seen) ∙ c.if-not-check_in.true)

pub loop-before-preserved : goal.loop-before-preserved
loop-before-preserved g c = λ board holds.
    let s = setting c.args.setup.now in
    let v = c.args.vehicle in
    let n = c.loop-before.before in
    let route = c.customers-route.result.now in
    let within = c.loop-before-test.true in
    let viewed = sym (c.check_in.ensures s board c.args.session holds c.requires.seen) ∙ c.if-not-check_in.false in
    let read : route ≡ route_at c.args.state.now.plan.routes v =
    c.customers-route.ensures ∙ (c.deref.ensures ∙ (c.route.ensures.value ∙ ap (λ (p : PlanState). route_at p.routes v) c.plan.ensures)) in
    let last : n + 1 ≤ length (route_at c.args.state.now.plan.routes v) = omega (arith, within, ap length read) in
    elim c.if-check_in.branch [
      | then-check_in+in_ok-push w ↦
          rw w.rows-is (place_seen s board c.args.session _ _ _ v route n w.placed_row.result c.requires.low within viewed
          (sym (c.check_in-in-loop-before.ensures s board c.args.session holds c.requires.seen) ∙ w.if-check_in.true)
          w.placed_row.ensures.spot
          (w.placed_row.ensures.early board.routes (stop_at s c.args.state.now board holds _ v (n + 1) w.cache.ensures c.requires.low c.requires.high (omega arith) last))
          (c.loop-before.invariant board holds) w.in_ok-push.ensures.items)
      | else-check_in w ↦
          rw w.rows-is (place_past s board c.args.session _ _ v route n c.requires.low within viewed
          (sym (c.check_in-in-loop-before.ensures s board c.args.session holds c.requires.seen) ∙ w.if-check_in.false)
          (c.loop-before.invariant board holds))
    ]

pub route-requires-clause-low : goal.route-requires-clause-low
route-requires-clause-low g c = c.requires.low

pub route-requires-clause-high : goal.route-requires-clause-high
route-requires-clause-high g c =
    let many = ap (λ (p : PlanState). length p.routes) c.plan.ensures ∙ fleet (setting c.args.setup.now) c.args.state.now c.requires.held.0 c.requires.held.1 in
    subst (λ (n : ℕ). c.args.vehicle ≤ n) (sym many) c.requires.high

pub loop-before-init : goal.loop-before-init
loop-before-init g c board holds = grows_none (setting c.args.setup.now) board c.args.session c.args.rows.now.items

pub bounds-route-before : goal.bounds-route-before
bounds-route-before g c = c.loop-before-test.true

pub placed_row-requires : goal.placed_row-requires
placed_row-requires g c =
    let s = setting c.args.setup.now in
    let v = c.args.vehicle in
    let read = c.customers-route.ensures ∙ (c.deref.ensures ∙ (c.route.ensures.value ∙ ap (λ (p : PlanState). route_at p.routes v) c.plan.ensures)) in
    let board = c.requires.held.0 in
    let last = next_within c.loop-before.before _ _ _ c.loop-before-test.true (ap length read) refl in
    (board.routes, stop_at s c.args.state.now board c.requires.held.1 _ v (c.loop-before.before + 1) c.cache.ensures c.requires.low c.requires.high (some_next c.loop-before.before) last)

pub returns : goal.returns
returns g c board holds =
    let s = setting c.args.setup.now in
    let v = c.args.vehicle in
    let read = c.customers-route.ensures ∙ (c.deref.ensures ∙ (c.route.ensures.value ∙ ap (λ (p : PlanState). route_at p.routes v) c.plan.ensures)) in
    let all = take_all c.loop-before.before c.customers-route.result.now c.loop-before-test.false ∙ read ∙ same_route s c.args.state.now board holds v in
    subst (λ (r : List ℕ). Grows s board c.args.session (touches v 1 r) c.args.rows.now.items c.loop-before.rows.items) all (c.loop-before.invariant board holds)
