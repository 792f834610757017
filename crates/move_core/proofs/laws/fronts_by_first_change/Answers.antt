use Rattle.move_core.proofs.ByEffect.{by_first_change}
use Rattle.move_core.proofs.laws.fronts_by_first_change.Goals as goal

pub returns : goal.returns
returns c = by_first_change (record { replaced = c.routes_replaced.ensures; places = c.customers_stand_by_route.ensures; among = c.among_is_tested.ensures }) c.fronts_are_common.ensures
