-- What an entry changes.
use Rattle.std.specs.Prelude.{◌≡◌, ◌++◌, length, option_to_list}
use Rattle.dimension_core.specs.Setting.{Setting}
use Rattle.plan_core.specs.Plan.{changes_of}
use Rattle.pin_core.specs.Pins.{pin_of, front_of}
use Rattle.board_rules.specs.Delta.{AreChangesOf, AreRoutesOf}
use Rattle.board_rules.specs.declared.call.Entry.{Entry}
use Rattle.board_rules.specs.State.{BoardState}
use Rattle.board_rules.specs.Step.{after}
use Rattle.published_board.specs.declared.change.Change.{Change}

-- the new routes, pins and frozen length are the difference of two states, and the version is that of the second
pub record IsChange (s : Setting) (old new : BoardState) (c : Change) : Type 0 where
  pub routes : AreRoutesOf old new (changes_of (option_to_list c.first ++ option_to_list c.second))
  pub pins : AreChangesOf s.customers (pin_of old.pins) (pin_of new.pins) c.pins.items
  pub front : AreChangesOf s.vehicles (front_of old.pins) (front_of new.pins) (option_to_list c.front)
  pub version : c.version ≡ length new.commits

-- the change is that of an entry in a state
abbrev pub IsChangeBy : Setting → BoardState → Entry → Change → Type 0
IsChangeBy s state e c = IsChange s state (after state e.call e.reply) c
