use Rattle.std.proofs.Common.{◌∙◌, ◌<◌, length, refl, sym, ap, subst}
use Rattle.callback_store.specs.Tables.{nodes_of}
use Rattle.plan_core.specs.Cost.{route_cost}
use Rattle.plan_core.proofs.Ways.{cost_as, depot_known, node_known}
use Rattle.plan_core.proofs.cost.route_cost.Goals as goal

pub cost_of_route-requires-clause-registered : goal.cost_of_route-requires-clause-registered
cost_of_route-requires-clause-registered g c = subst (λ ts. c.cost.result < length ts) (sym c.registry.ensures.value) c.cost.ensures.registered

pub cost_of_route-requires-clause-depot : goal.cost_of_route-requires-clause-depot
cost_of_route-requires-clause-depot g c = depot_known _ _ (ap nodes_of c.registry.ensures.value ∙ c.registry.ensures.sound.tables)

pub cost_of_route-requires-clause-known : goal.cost_of_route-requires-clause-known
cost_of_route-requires-clause-known g c = λ k d h.
    node_known _ _ _ (ap nodes_of c.registry.ensures.value ∙ c.registry.ensures.sound.tables) (c.requires.known k d h)

pub returns-clause-value : goal.returns-clause-value
returns-clause-value g c = cost_as route_cost _ _ _ _ _ _ _ c.registry.ensures.value c.cost.ensures.value refl c.cost_of_route.ensures.value

pub returns-clause-small : goal.returns-clause-small
returns-clause-small g c = c.cost_of_route.ensures.small

pub returns-clause-just : goal.returns-clause-just
returns-clause-just g c = c.cost_of_route.ensures.just

pub returns-clause-sound : goal.returns-clause-sound
returns-clause-sound g c = c.registry.ensures.sound
