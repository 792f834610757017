use Rattle.move_core.proofs.ByEffect.{by_plans_kept}
use Rattle.move_core.proofs.laws.moves_keep_plans.Goals as goal

pub returns : goal.returns
returns c = by_plans_kept (record { replaced = c.routes_replaced.ensures; places = c.customers_stand_by_route.ensures; among = c.among_is_tested.ensures })
