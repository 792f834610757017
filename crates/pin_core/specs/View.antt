use Rattle.std.specs.Prelude.{ℕ, List, Option}
use Rattle.pin_core.specs.Pins.{PinState}

-- A plan as it stood at some version, as contracts see it: its routes, for each customer the vehicle to which it is pinned, if any, for
-- each vehicle its frozen length, and the version.
pub record ViewState : Type 0 where
  pub routes : List (List ℕ)
  pub pinned : List (Option ℕ)
  pub frozen : List ℕ
  pub version : ℕ

-- its pins and freezes
abbrev pub pins_of : ViewState → PinState
pins_of view = record { pins = view.pinned; fronts = view.frozen }
