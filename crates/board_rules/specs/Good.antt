-- What every state of a legal history keeps.
use Rattle.std.specs.Prelude.{ℕ, ◌≡◌, length, take}
use Rattle.dimension_core.specs.Setting.{Setting}
use Rattle.dimension_core.specs.Feasible.{IsFeasible}
use Rattle.plan_core.specs.Plan.{IsPlan}
use Rattle.pin_core.specs.Pins.{DoPinsHold, DoFrontsFit}
use Rattle.board_rules.specs.State.{BoardState}
use Rattle.board_rules.specs.History.{History, state_after}

-- There is a route for each vehicle, of customers of the board and none of them twice, each in bounds in each dimension; there is a row
-- for each customer's pin and each vehicle's frozen length; the pins hold, and no frozen length is above its route's.
pub record IsGood (s : Setting) (state : BoardState) : Type 0 where
  pub sized : length state.routes ≡ s.vehicles
  pub plan : IsPlan s.customers state.routes
  pub feasible : IsFeasible s state.routes
  pub pinned : length state.pins.pins ≡ s.customers
  pub frozen : length state.pins.fronts ≡ s.vehicles
  pub pins : DoPinsHold state.pins state.routes
  pub fronts : DoFrontsFit state.pins state.routes

-- the state after a history, and after its first k entries
abbrev pub state_of : History → BoardState
state_of h = state_after h.opening.setting h.entries

abbrev pub state_at : History → ℕ → BoardState
state_at h k = state_after h.opening.setting (take k h.entries)
