use Rattle.std.proofs.Common.{◌∙◌}
use Rattle.move_core.proofs.Placed.{placed_by_place}
use Rattle.move_core.proofs.possible.is_placed.Goals as goal

pub returns : goal.returns
returns c =
    c.is_some.ensures
    ∙ placed_by_place (record { replaced = c.routes_replaced.ensures; places = c.customers_stand_by_route.ensures; among = c.among_is_tested.ensures })
    c.args.plan.now.routes c.args.customer _ c.place_of.ensures.stands c.place_of.ensures.nowhere
