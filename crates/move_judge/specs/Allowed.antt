use Rattle.std.specs.Prelude.{◌≡◌, ℕ, List, None, Contains}
use Rattle.dimension_core.specs.Setting.{Setting}
use Rattle.dimension_core.specs.NewRoutes.{AllFit}
use Rattle.plan_core.specs.Plan.{with_routes}
use Rattle.pin_core.specs.Pins.{PinState, DoPinsHold, AreFreezesKept, pin_of}
use Rattle.pin_core.specs.View.{ViewState, pins_of}
use Rattle.move_core.specs.declared.moves.Move.{Move}
use Rattle.move_core.specs.Moves.{changes_by}

-- the new routes are in bounds, the freezes are kept and the pins hold, and the move is not to be skipped
pub record IsAllowed (s : Setting) (view : ViewState) (skip : List Move) (mv : Move) : Type 0 where
  pub fits : AllFit s (changes_by view.routes mv)
  pub freezes : AreFreezesKept (pins_of view) view.routes (with_routes (changes_by view.routes mv) view.routes)
  pub pins : DoPinsHold (pins_of view) (with_routes (changes_by view.routes mv) view.routes)
  pub fresh : ¬ Contains skip mv

-- none of some customers is pinned
abbrev pub AreLoose : PinState → List ℕ → Type 0
AreLoose s customers = (c : ℕ) → Contains customers c → pin_of s c ≡ None
