use Rattle.move_core.proofs.Numbers.{moves_possible}
use Rattle.move_core.proofs.Placed.{stands_from_placed, placed_from_stands}
use Rattle.move_core.proofs.laws.moves_are_possible.Goals as goal

pub returns-clause-moves : goal.returns-clause-moves
returns-clause-moves c = moves_possible

pub returns-clause-placed : goal.returns-clause-placed
returns-clause-placed c = λ routes d. (
  λ t. stands_from_placed (record { replaced = c.routes_replaced.ensures; places = c.customers_stand_by_route.ensures; among = c.among_is_tested.ensures }) routes d t,
  λ s. placed_from_stands (record { replaced = c.routes_replaced.ensures; places = c.customers_stand_by_route.ensures; among = c.among_is_tested.ensures }) routes d s.0 s.1.0 s.1.1,
)
