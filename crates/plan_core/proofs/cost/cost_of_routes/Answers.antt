use Rattle.std.proofs.Common.{◌∙◌, ℕ, ◌<◌, ◌≤◌, List, All, length, refl, sym, ap, subst, le_refl}
use Rattle.std.proofs.Math.Facts.{Fits-below}
use Rattle.std.proofs.lemmas.List.{take_all}
use Rattle.callback_store.specs.Meter.{AsksJust, none_asked}
use Rattle.callback_store.specs.Registry.{tables}
use Rattle.callback_store.specs.Tables.{nodes_of, table_at}
use Rattle.plan_core.specs.Cost.{cost_of, asks_of, route_cost}
use Rattle.plan_core.specs.Plan.{routes_of}
use Rattle.plan_core.proofs.Ways.{sum_more, asks_more, small_more, small_all}
use Rattle.plan_core.proofs.cost.cost_of_routes.Goals as goal

pub loop-route-init : goal.loop-route-init
loop-route-init g c = record { whole = refl; asks = none_asked c.args.meter.now; small = le_refl 0 }

pub cost_of_route-sum-requires-clause-known : goal.cost_of_route-sum-requires-clause-known
cost_of_route-sum-requires-clause-known g c =
    let read = c.customers.ensures ∙ c.deref.ensures ∙ ap (λ r. r.value) c.route-item.is in
    subst (λ (r : List ℕ). All (λ x. x < nodes_of (tables c.args.registry.now)) r) (sym read) (c.requires.known _ c.route-item.result c.loop-route-test.true)

pub cost_of_route-sum-requires-clause-short : goal.cost_of_route-sum-requires-clause-short
cost_of_route-sum-requires-clause-short g c =
    let read = c.customers.ensures ∙ c.deref.ensures ∙ ap (λ r. r.value) c.route-item.is in
    subst (λ (r : List ℕ). length r ≤ 1000) (sym read) (c.requires.short _ c.route-item.result c.loop-route-test.true)

pub overflow_add-sum : goal.overflow_add-sum
overflow_add-sum g c =
    Fits-below tt (small_all 1001000000000 _ _ _ _ 1000 c.loop-route.invariant.small c.cost_of_route-sum.ensures.small c.loop-route.auto.route-index-end c.requires.few)

pub loop-route-preserved : goal.loop-route-preserved
loop-route-preserved g c =
    let i = c.loop-route.invariant in
    let new = c.cost_of_route-sum.ensures in
    let read = c.customers.ensures ∙ c.deref.ensures in
    record {
      whole = sum_more (λ r. r.value) (route_cost (table_at (tables c.args.registry.now) c.args.cost)) c.args.routes.now _ _ _ c.route-item.result _
          c.loop-route-test.true i.whole c.route-item.is read new.value;
      asks = asks_more (λ r. r.value) c.args.routes.now _ c.route-item.result _ _ _ _ c.loop-route-test.true c.route-item.is read i.asks new.just;
      small = small_more 1001000000000 _ _ _ i.small new.small;
    }

pub returns-clause-value : goal.returns-clause-value
returns-clause-value g c =
    c.loop-route.invariant.whole
    ∙ ap (λ rs. cost_of (table_at (tables c.args.registry.now) c.args.cost) (routes_of rs)) (take_all _ c.args.routes.now c.loop-route-test.false)

pub returns-clause-just : goal.returns-clause-just
returns-clause-just g c =
    subst (λ rs. AsksJust c.args.meter.now c.loop-route.meter (asks_of (routes_of rs))) (take_all _ c.args.routes.now c.loop-route-test.false) c.loop-route.invariant.asks
