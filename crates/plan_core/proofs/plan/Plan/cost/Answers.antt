use Rattle.std.proofs.Common.{◌≡◌, ℕ, ◌+◌, ◌<◌, ◌≤◌, List, length, sym, ap, subst, ◌∙◌}
use Rattle.std.proofs.lemmas.List.{length-map}
use Rattle.callback_store.specs.Meter.{AsksJust}
use Rattle.callback_store.specs.Registry.{tables}
use Rattle.callback_store.specs.Tables.{nodes_of}
use Rattle.plan_core.specs.Cost.{cost_of, asks_of}
use Rattle.plan_core.specs.Plan.{PlanState, routes_of}
use Rattle.plan_core.proofs.Short.{all_known, all_short}
use Rattle.plan_core.proofs.Ways.{cost_as, depot_known}
use Rattle.plan_core.proofs.plan.Plan.cost.Goals as goal

pub cost_of_routes-requires-clause-known : goal.cost_of_routes-requires-clause-known
cost_of_routes-requires-clause-known g c =
    let nodes : nodes_of (tables c.registry.result.now) ≡ c.self.inside.customers + 1 =
    ap nodes_of c.registry.ensures.value ∙ c.registry.ensures.sound.tables ∙ ap (λ (n : ℕ). n + 1) (sym c.requires ∙ sym (ap (λ (s : PlanState). s.customers) c.self.view_is)) in
    rw (nodes, c.deref.ensures.value) (all_known (λ r. r.value) c.self.inside.routes.items c.self.inside.customers c.self.invariant.sound)

pub cost_of_routes-requires-clause-short : goal.cost_of_routes-requires-clause-short
cost_of_routes-requires-clause-short g c =
    rw c.deref.ensures.value (all_short (λ r. r.value) c.self.inside.routes.items c.self.inside.customers c.self.invariant.sound c.self.invariant.sizes.customers)

pub cost_of_routes-requires-clause-registered : goal.cost_of_routes-requires-clause-registered
cost_of_routes-requires-clause-registered g c = subst (λ ts. c.cost.result < length ts) (sym c.registry.ensures.value) c.cost.ensures.registered

pub cost_of_routes-requires-clause-depot : goal.cost_of_routes-requires-clause-depot
cost_of_routes-requires-clause-depot g c = depot_known _ _ (ap nodes_of c.registry.ensures.value ∙ c.registry.ensures.sound.tables)

pub cost_of_routes-requires-clause-few : goal.cost_of_routes-requires-clause-few
cost_of_routes-requires-clause-few g c =
    let long : length c.deref.result.now ≡ length (routes_of c.self.inside.routes.items) = ap length c.deref.ensures.value ∙ sym (length-map c.self.inside.routes.items (λ r. r.value)) in
    subst (λ (n : ℕ). n ≤ 1000) (sym long) c.self.invariant.sizes.vehicles

pub returns-clause-value : goal.returns-clause-value
returns-clause-value g c =
    let routes = ap routes_of c.deref.ensures.value ∙ ap (λ (s : PlanState). s.routes) c.self.view_is in
    cost_as cost_of _ _ _ _ _ _ _ c.registry.ensures.value c.cost.ensures.value routes c.cost_of_routes.ensures.value

pub returns-clause-just : goal.returns-clause-just
returns-clause-just g c =
    let routes = ap routes_of c.deref.ensures.value ∙ ap (λ (s : PlanState). s.routes) c.self.view_is in
    subst (λ (rs : List (List ℕ)). AsksJust c.args.meter.now c.cost_of_routes.new.meter (asks_of rs)) routes c.cost_of_routes.ensures.just
