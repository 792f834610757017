use Rattle.std.specs.Prelude.{◌≡◌, length}
use Rattle.plan_core.specs.Plan.{IsPlan}
use Rattle.pin_core.specs.Pins.{DoPinsHold, DoFrontsFit}
use Rattle.pin_core.specs.View.{ViewState, pins_of}
use Rattle.dimension_core.specs.Setting.{Setting}
use Rattle.dimension_core.specs.Feasible.{IsFeasible}

-- a view of a feasible plan of that setup, in which the pins hold and no frozen length is above its route's
pub record IsViewOf (s : Setting) (view : ViewState) : Type 0 where
  pub plan : IsPlan s.customers view.routes
  pub vehicles : length view.routes ≡ s.vehicles
  pub pinned : length view.pinned ≡ s.customers
  pub frozen : length view.frozen ≡ s.vehicles
  pub feasible : IsFeasible s view.routes
  pub holding : DoPinsHold (pins_of view) view.routes
  pub fitting : DoFrontsFit (pins_of view) view.routes
