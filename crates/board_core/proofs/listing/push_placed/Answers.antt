use Rattle.std.proofs.Common.{◌≡◌, ◌+◌, ◌<◌, ◌≤◌, All, List, ℕ, length, refl, sym, ap, ◌∙◌, arith, subst}
use Rattle.std.proofs.lemmas.List.{take_all}
use Rattle.dimension_core.specs.Setup.{setting}
use Rattle.plan_core.specs.Plan.{PlanState, route_at}
use Rattle.board_rules.specs.Listing.{placed_spots}
use Rattle.board_core.specs.Shown.{AreMarked, AreMarkedOn, Grows}
use Rattle.board_core.proofs.Listings.{grows_none, placed_more}
use Rattle.board_core.proofs.Marks.{none_marked, routes_marked}
use Rattle.board_core.proofs.Stops.{all_within, fleet, next_within, some_next}
use Rattle.board_core.proofs.listing.push_placed.Goals as goal

pub loop-before-preserved : goal.loop-before-preserved
loop-before-preserved g c =
    let s = setting c.args.setup.now in
    let n = c.loop-before.before in
    let many = fleet s c.args.state.now c.requires.held.0 c.requires.held.1 in
    let within : n < length c.args.state.now.plan.routes = omega (arith, c.loop-before-test.true, c.vehicles-before-end.ensures.value, many) in
    let read : c.customers.result.now ≡ route_at c.args.state.now.plan.routes (n + 1) =
    c.customers.ensures ∙ (c.deref.ensures ∙ (c.route.ensures.value ∙ ap (λ (p : PlanState). route_at p.routes (n + 1)) c.plan-plan.ensures)) in
    record {
      grown = λ board holds.
          let inside : n < length board.routes = omega (arith, within, ap length holds.routes) in
          placed_more s board c.args.session _ _ _ n inside (c.loop-before.invariant.grown board holds) (c.in_ok-push_route.ensures board holds);
      marked = routes_marked c.args.state.now.plan.routes n _ _ _ within c.loop-before.invariant.marked
          (subst (λ (r : List ℕ). AreMarkedOn r c.loop-before.placed c.mark.new.placed) read c.mark.ensures);
    }

pub loop-before-init : goal.loop-before-init
loop-before-init g c =
    record {
      grown = λ board holds. grows_none (setting c.args.setup.now) board c.args.session c.args.rows.now.items;
      marked = none_marked c.args.placed.now;
    }

pub route-requires-clause-low : goal.route-requires-clause-low
route-requires-clause-low g c = some_next c.loop-before.before

pub route-requires-clause-high : goal.route-requires-clause-high
route-requires-clause-high g c =
    next_within c.loop-before.before _ _ _ c.loop-before-test.true c.vehicles-before-end.ensures.value (ap (λ (p : PlanState). length p.routes) c.plan-plan.ensures ∙ fleet (setting c.args.setup.now) c.args.state.now c.requires.held.0 c.requires.held.1)

pub mark-requires : goal.mark-requires
mark-requires g c =
    let read = c.customers.ensures ∙ c.deref.ensures in
    let sized = ap (λ (p : PlanState). p.customers) c.plan-plan.ensures ∙ (c.requires.held.1.customers ∙ (sym c.requires.sized ∙ sym c.loop-before.invariant.marked.sized)) in
    subst (λ (r : List ℕ). All (λ d. (1 ≤ d) × (d ≤ length c.loop-before.placed)) r) (sym read)
    (subst (λ (n : ℕ). All (λ d. (1 ≤ d) × (d ≤ n)) c.route.result.now.value) sized c.route.ensures.known)

pub push_route-requires : goal.push_route-requires
push_route-requires g c =
    record {
      held = c.requires.held;
      seen = c.requires.seen;
      low = some_next c.loop-before.before;
      high = next_within c.loop-before.before _ _ _ c.loop-before-test.true c.vehicles-before-end.ensures.value refl;
    }

pub returns-clause-rows : goal.returns-clause-rows
returns-clause-rows g c board holds =
    let all = take_all c.loop-before.before board.routes (all_within c.loop-before.before _ _ _ c.loop-before-test.false c.vehicles-before-end.ensures.value holds.cache.vehicles) in
    subst (λ (rs : List (List ℕ)). Grows (setting c.args.setup.now) board c.args.session (placed_spots 1 rs) c.args.rows.now.items c.loop-before.rows.items) all
    (c.loop-before.invariant.grown board holds)

pub returns-clause-placed : goal.returns-clause-placed
returns-clause-placed g c =
    let all = take_all c.loop-before.before c.args.state.now.plan.routes (all_within c.loop-before.before _ _ _ c.loop-before-test.false c.vehicles-before-end.ensures.value (fleet (setting c.args.setup.now) c.args.state.now c.requires.held.0 c.requires.held.1)) in
    subst (λ (rs : List (List ℕ)). AreMarked rs c.args.placed.now c.loop-before.placed) all c.loop-before.invariant.marked
