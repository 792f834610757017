-- Laws of moves on which the search stands, as the crates below state them.
use Rattle.move_core.specs.Laws.{MovesArePossible}
use Rattle.way_costs.specs.Laws.{MovesSave}
use Rattle.move_judge.specs.Laws.{AllowedMovesAreFree, BoundsOnlyForbid}

pub record Laws : Type 0 where
  pub possible : MovesArePossible
  pub saves : MovesSave
  pub free : AllowedMovesAreFree
  pub bounds : BoundsOnlyForbid
