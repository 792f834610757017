use Rattle.gathered_ways.proofs.Rooms.{one_more_fits, two_more_fit}
use Rattle.std.proofs.Common.{◌≡◌, ◌∙◌, ◌+◌, length, ap, arith, subst, sym, ℕ, ◌≤◌}
use Rattle.callback_store.specs.Tables.{table_at}
use Rattle.dimension_core.specs.Setup.{setting}
use Rattle.plan_core.specs.Plan.{route_at}
use Rattle.gathered_ways.specs.Sides.{stops_of_both}
use Rattle.gathered_ways.proofs.AllStops.{made_stops}
use Rattle.gathered_ways.proofs.Joined.{both_long, both_front, both_back, rest_whole, edges_front, edges_back, middle_back, middle_front, middle_ways}
use Rattle.std.proofs.lemmas.List.{length-take-le}
use Rattle.gathered_ways.proofs.sides.parts_of.Goals as goal

pub returns-clause-from : goal.returns-clause-from
returns-clause-from g c =
    let r = route_at c.args.view.now.routes c.args.v in
    let q = c.requires.stops.0 in
    let here = c.customers.ensures in
    let long : length c.customers.result.now ≡ length r = ap length here in
    made_stops c.routes_are_known.ensures (setting c.args.setup.now) c.args.view.now.routes c.args.v _ c.requires.plan c.requires.vehicles c.customers-customers.ensures.sound.few_customers c.requires.v.0 c.requires.v.1
    (both_front r q c.args.stops.now (length c.customers.result.now + 1 + 1) c.requires.stops.1 (omega arith))

pub returns-clause-to : goal.returns-clause-to
returns-clause-to g c = λ w low high all.
    let r = route_at c.args.view.now.routes c.args.v in
    let q = route_at c.args.view.now.routes w in
    let long : length c.customers.result.now ≡ length r = ap length c.customers.ensures in
    made_stops c.routes_are_known.ensures (setting c.args.setup.now) c.args.view.now.routes w _ c.requires.plan c.requires.vehicles c.customers-customers.ensures.sound.few_customers low high
    (rest_whole (length c.customers.result.now + 1) c.args.stops.now ∙ both_back r q c.args.stops.now (length c.customers.result.now + 1) all (omega arith))

pub returns-clause-from_edges : goal.returns-clause-from_edges
returns-clause-from_edges g c =
    let t = table_at (setting c.args.setup.now).tables (setting c.args.setup.now).cost in
    let r = route_at c.args.view.now.routes c.args.v in
    let q = c.requires.stops.0 in
    let here = c.customers.ensures in
    let long : length c.customers.result.now ≡ length r = ap length here in
    let all : length c.args.stops.now ≡ length (stops_of_both r q) = ap length c.requires.stops.1 in
    let both = both_long r q in
    edges_front t c.args.stops.now c.args.edges.now (length c.customers.result.now + 1) c.requires.edges (omega arith)

pub returns-clause-to_edges : goal.returns-clause-to_edges
returns-clause-to_edges g c =
    let t = table_at (setting c.args.setup.now).tables (setting c.args.setup.now).cost in
    let r = route_at c.args.view.now.routes c.args.v in
    let q = c.requires.stops.0 in
    let here = c.customers.ensures in
    let long : length c.customers.result.now ≡ length r = ap length here in
    let all : length c.args.stops.now ≡ length (stops_of_both r q) = ap length c.requires.stops.1 in
    let both = both_long r q in
    let middle = length c.customers.result.now + 1 in
    rw (rest_whole middle c.args.stops.now, rest_whole middle c.args.edges.now)
    (edges_back t c.args.stops.now c.args.edges.now (length c.customers.result.now + 1) c.requires.edges (omega arith))

pub customers-requires-clause-low : goal.customers-requires-clause-low
customers-requires-clause-low g c = c.requires.v.0

pub customers-requires-clause-high : goal.customers-requires-clause-high
customers-requires-clause-high g c = subst (λ (n : ℕ). c.args.v ≤ n) (sym c.requires.vehicles) c.requires.v.1

pub slice_bounds-from-end : goal.slice_bounds-from-end
slice_bounds-from-end g c =
    let fit = middle_front _ c.requires.stops.0 _ _ c.customers.ensures c.requires.stops.1 in
    omega (arith, length-take-le (length c.customers.result.now + 1 + 1) c.args.stops.now fit)

pub slice_bounds-to-start : goal.slice_bounds-to-start
slice_bounds-to-start g c = middle_back _ c.requires.stops.0 _ _ c.customers.ensures c.requires.stops.1

pub slice_bounds-from_edges-end : goal.slice_bounds-from_edges-end
slice_bounds-from_edges-end g c =
    let fit = middle_ways _ c.requires.stops.0 _ _ _ c.customers.ensures c.requires.stops.1 c.requires.edges.counted in
    omega (arith, length-take-le (length c.customers.result.now + 1) c.args.edges.now fit)

pub slice_bounds-to_edges-start : goal.slice_bounds-to_edges-start
slice_bounds-to_edges-start g c = middle_ways _ c.requires.stops.0 _ _ _ c.customers.ensures c.requires.stops.1 c.requires.edges.counted

pub slice_bounds-to-count : goal.slice_bounds-to-count
slice_bounds-to-count g c = middle_back _ c.requires.stops.0 _ _ c.customers.ensures c.requires.stops.1

pub slice_bounds-to_edges-count : goal.slice_bounds-to_edges-count
slice_bounds-to_edges-count g c = middle_ways _ c.requires.stops.0 _ _ _ c.customers.ensures c.requires.stops.1 c.requires.edges.counted

pub overflow_add-middle : goal.overflow_add-middle
overflow_add-middle g c = one_more_fits _ _ _ c.customers.ensures (c.routes_are_known.ensures.short _ _ c.args.v c.requires.plan) c.customers-customers.ensures.sound.few_customers

pub overflow_add-from : goal.overflow_add-from
overflow_add-from g c = two_more_fit _ _ _ c.customers.ensures (c.routes_are_known.ensures.short _ _ c.args.v c.requires.plan) c.customers-customers.ensures.sound.few_customers
