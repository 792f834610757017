use Rattle.move_core.proofs.ByEffect.{by_untouched_kept}
use Rattle.move_core.proofs.laws.moves_keep_the_untouched.Goals as goal

pub returns : goal.returns
returns c = by_untouched_kept (record { replaced = c.routes_replaced.ensures; places = c.customers_stand_by_route.ensures; among = c.among_is_tested.ensures })
