-- Laws of what is allowed, said of all views. The public functions of `laws.rt` have them as contracts.
use Rattle.std.specs.Prelude.{◌≡◌, ◌≢◌, ℕ, ◌+◌, ◌<◌, true, false, Bool, List, drop}
use Rattle.dimension_core.specs.Setting.{Setting}
use Rattle.dimension_core.specs.NewRoutes.{AllFit}
use Rattle.plan_core.specs.Plan.{route_at}
use Rattle.pin_core.specs.Pins.{front_of}
use Rattle.pin_core.specs.View.{ViewState, pins_of}
use Rattle.move_core.specs.declared.moves.Move.{Move}
use Rattle.move_core.specs.declared.moves.Move.TheVariants.{Shift, Swap, Reverse, Cross}
use Rattle.move_core.specs.Moves.{is_possible, changes_by, stretch}
use Rattle.move_judge.specs.Allowed.{IsAllowed, AreLoose}
use Rattle.move_judge.specs.Scope.{scope}
use Rattle.route_parts.specs.View.{IsViewOf}

-- a move that is allowed changes its routes behind their frozen fronts alone, and nobody is pinned whom it sends to another vehicle
pub record AllowedMovesAreFree : Type 0 where
  pub shift : (s : Setting) (view : ViewState) (skip : List Move) (v p m w at : ℕ) → IsViewOf s view → v ≢ w
      → is_possible s.customers view.routes (Shift v p m w at) ≡ true → IsAllowed s view skip (Shift v p m w at)
      → (front_of (pins_of view) v < p) × (front_of (pins_of view) w < at) × AreLoose (pins_of view) (stretch (route_at view.routes v) p m)
  pub shift_inside : (s : Setting) (view : ViewState) (skip : List Move) (v p m at : ℕ) → IsViewOf s view
      → is_possible s.customers view.routes (Shift v p m v at) ≡ true → IsAllowed s view skip (Shift v p m v at)
      → (front_of (pins_of view) v < p) × (front_of (pins_of view) v < at)
  pub swap : (s : Setting) (view : ViewState) (skip : List Move) (v p w at : ℕ) → IsViewOf s view → v ≢ w
      → is_possible s.customers view.routes (Swap v p w at) ≡ true → IsAllowed s view skip (Swap v p w at)
      → (front_of (pins_of view) v < p) × (front_of (pins_of view) w < at) × AreLoose (pins_of view) (stretch (route_at view.routes v) p 1)
  pub swap_inside : (s : Setting) (view : ViewState) (skip : List Move) (v p at : ℕ) → IsViewOf s view → p < at
      → is_possible s.customers view.routes (Swap v p v at) ≡ true → IsAllowed s view skip (Swap v p v at) → front_of (pins_of view) v < p
  pub reverse : (s : Setting) (view : ViewState) (skip : List Move) (v i j : ℕ) → IsViewOf s view
      → is_possible s.customers view.routes (Reverse v i j) ≡ true → IsAllowed s view skip (Reverse v i j) → front_of (pins_of view) v < i
  pub cross : (s : Setting) (view : ViewState) (skip : List Move) (v k w l : ℕ) → IsViewOf s view
      → is_possible s.customers view.routes (Cross v k w l) ≡ true → IsAllowed s view skip (Cross v k w l)
      → (front_of (pins_of view) v < k + 1) × (front_of (pins_of view) w < l + 1) × AreLoose (pins_of view) (drop k (route_at view.routes v))
      × AreLoose (pins_of view) (drop l (route_at view.routes w))

-- without the dimensions a view is still one of a feasible plan, and each move that is allowed with them is allowed; one that is allowed
-- without them and whose new routes are in bounds is allowed
pub record BoundsOnlyForbid : Type 0 where
  pub views : (bounded : Bool) (s : Setting) (view : ViewState) → IsViewOf s view → IsViewOf (scope bounded s) view
  pub allowed : (s : Setting) (view : ViewState) (skip : List Move) (mv : Move) → IsAllowed s view skip mv → IsAllowed (scope false s) view skip mv
  pub fitting : (s : Setting) (view : ViewState) (skip : List Move) (mv : Move) → IsAllowed (scope false s) view skip mv
      → AllFit s (changes_by view.routes mv) → IsAllowed s view skip mv
