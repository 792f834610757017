-- What moves save, said of all views. The public function of `laws.rt` has it as its contract.
use Rattle.std.specs.Prelude.{◌≡◌, ◌≢◌, ℕ, ◌+◌, ◌<◌, true, List}
use Rattle.callback_store.specs.Tables.{table_at}
use Rattle.dimension_core.specs.Setting.{Setting}
use Rattle.plan_core.specs.Plan.{IsPlan}
use Rattle.pin_core.specs.View.{ViewState}
use Rattle.move_core.specs.declared.moves.Move.TheVariants.{Shift, Swap, Reverse, Cross}
use Rattle.move_core.specs.Moves.{is_possible}
use Rattle.way_costs.specs.Costs.{IsSaving}
use Rattle.way_costs.specs.Savings.{shift_lost, shift_gained, swap_lost, swap_gained, next_lost, next_gained, cross_lost, cross_gained, reverse_lost, reverse_gained}
use Rattle.way_costs.specs.Ways.{AreStops}

-- what a move of each kind saves, by the stops of its vehicles: a shift to another vehicle, and inside one towards the front and towards the
-- back; a swap with a customer of another vehicle, with one of the same vehicle that is no neighbour, and with the next one; a cross; a reverse
pub record MovesSave : Type 0 where
  pub shift : (s : Setting) (view : ViewState) (v p m w at : ℕ) (from to : List ℕ) → IsPlan s.customers view.routes → v ≢ w
      → AreStops s.customers view.routes v from → AreStops s.customers view.routes w to → is_possible s.customers view.routes (Shift v p m w at) ≡ true
      → IsSaving s view (Shift v p m w at) (shift_lost (table_at s.tables s.cost) from to p m 0 at) (shift_gained (table_at s.tables s.cost) from to p m 0 at)
  pub forwards : (s : Setting) (view : ViewState) (v p m at : ℕ) (from : List ℕ) → IsPlan s.customers view.routes
      → AreStops s.customers view.routes v from → is_possible s.customers view.routes (Shift v p m v at) ≡ true → at < p
      → IsSaving s view (Shift v p m v at) (shift_lost (table_at s.tables s.cost) from from p m 0 at) (shift_gained (table_at s.tables s.cost) from from p m 0 at)
  pub backwards : (s : Setting) (view : ViewState) (v p m at : ℕ) (from : List ℕ) → IsPlan s.customers view.routes
      → AreStops s.customers view.routes v from → is_possible s.customers view.routes (Shift v p m v at) ≡ true → p < at
      → IsSaving s view (Shift v p m v at) (shift_lost (table_at s.tables s.cost) from from p m m at) (shift_gained (table_at s.tables s.cost) from from p m m at)
  pub swap : (s : Setting) (view : ViewState) (v p w q : ℕ) (from to : List ℕ) → IsPlan s.customers view.routes → v ≢ w
      → AreStops s.customers view.routes v from → AreStops s.customers view.routes w to → is_possible s.customers view.routes (Swap v p w q) ≡ true
      → IsSaving s view (Swap v p w q) (swap_lost (table_at s.tables s.cost) from to p q) (swap_gained (table_at s.tables s.cost) from to p q)
  pub swap_inside : (s : Setting) (view : ViewState) (v p q : ℕ) (from : List ℕ) → IsPlan s.customers view.routes
      → AreStops s.customers view.routes v from → is_possible s.customers view.routes (Swap v p v q) ≡ true → p + 1 < q
      → IsSaving s view (Swap v p v q) (swap_lost (table_at s.tables s.cost) from from p q) (swap_gained (table_at s.tables s.cost) from from p q)
  pub swap_next : (s : Setting) (view : ViewState) (v p : ℕ) (from : List ℕ) → IsPlan s.customers view.routes
      → AreStops s.customers view.routes v from → is_possible s.customers view.routes (Swap v p v (p + 1)) ≡ true
      → IsSaving s view (Swap v p v (p + 1)) (next_lost (table_at s.tables s.cost) from p) (next_gained (table_at s.tables s.cost) from p)
  pub cross : (s : Setting) (view : ViewState) (v k w l : ℕ) (from to : List ℕ) → IsPlan s.customers view.routes
      → AreStops s.customers view.routes v from → AreStops s.customers view.routes w to → is_possible s.customers view.routes (Cross v k w l) ≡ true
      → IsSaving s view (Cross v k w l) (cross_lost (table_at s.tables s.cost) from to k l) (cross_gained (table_at s.tables s.cost) from to k l)
  pub reverse : (s : Setting) (view : ViewState) (v i j : ℕ) (from : List ℕ) → IsPlan s.customers view.routes
      → AreStops s.customers view.routes v from → is_possible s.customers view.routes (Reverse v i j) ≡ true
      → IsSaving s view (Reverse v i j) (reverse_lost (table_at s.tables s.cost) from i j) (reverse_gained (table_at s.tables s.cost) from i j)
