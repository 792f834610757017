-- What a judged call makes different, for who keeps the routes.
use Rattle.std.specs.Prelude.{◌≡◌, ◌++◌, length, option_to_list}
use Rattle.dimension_core.specs.Setting.{Setting}
use Rattle.plan_core.specs.Plan.{changes_of}
use Rattle.pin_core.specs.Pins.{pin_of, front_of}
use Rattle.board_rules.specs.Delta.{AreChangesOf, AreRoutesOf}
use Rattle.board_rules.specs.State.{BoardState}
use Rattle.board_state.specs.declared.difference.Difference.{Difference}

-- the new routes, pins and frozen length are the difference of two states, and the version is that of the second
pub record IsDifference (s : Setting) (old new : BoardState) (d : Difference) : Type 0 where
  pub routes : AreRoutesOf old new (changes_of (option_to_list d.first ++ option_to_list d.second))
  pub pins : AreChangesOf s.customers (pin_of old.pins) (pin_of new.pins) d.pins.items
  pub front : AreChangesOf s.vehicles (front_of old.pins) (front_of new.pins) (option_to_list d.front)
  pub version : d.version ≡ length new.commits
