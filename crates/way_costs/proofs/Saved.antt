-- What each kind of move saves, by lists of stops.
use Rattle.std.proofs.Common.{◌≡◌, ◌≢◌, ℕ, ◌+◌, ◌<◌, List, true}
use Rattle.callback_store.specs.Tables.{table_at}
use Rattle.dimension_core.specs.Setting.{Setting}
use Rattle.plan_core.specs.Plan.{IsPlan, route_at}
use Rattle.pin_core.specs.View.{ViewState}
use Rattle.move_core.specs.declared.moves.Move.TheVariants.{Shift, Swap, Reverse, Cross}
use Rattle.move_core.specs.Moves.{is_possible}
use Rattle.way_costs.specs.Costs.{IsSaving}
use Rattle.way_costs.specs.Savings.{shift_lost, shift_gained, swap_lost, swap_gained, next_lost, next_gained, cross_lost, cross_gained, reverse_lost, reverse_gained}
use Rattle.way_costs.specs.Ways.{AreStops}
use Rattle.way_costs.proofs.Below.{Laws}
use Rattle.way_costs.proofs.Costs.{AreAround, around_before, around_after, shift_saves, shift_inside_saves, swap_saves, swap_inside_saves, swap_next_saves, cross_saves, reverse_saves}

module _ (law : Laws) (s : Setting) (view : ViewState) where
  pub shift_by : (v p m w at : ℕ) (from to : List ℕ) → IsPlan s.customers view.routes → v ≢ w → AreStops s.customers view.routes v from → AreStops s.customers view.routes w to
      → is_possible s.customers view.routes (Shift v p m w at) ≡ true
      → IsSaving s view (Shift v p m w at) (shift_lost (table_at s.tables s.cost) from to p m 0 at) (shift_gained (table_at s.tables s.cost) from to p m 0 at)
  shift_by v p m w at from to plan o a b can = rw (a.is, b.is) (shift_saves law s view v p m w at plan can o)

  shift_inside_by : (v p m o at : ℕ) (from : List ℕ) → IsPlan s.customers view.routes → AreStops s.customers view.routes v from
      → is_possible s.customers view.routes (Shift v p m v at) ≡ true → AreAround (route_at view.routes v) p m o at
      → IsSaving s view (Shift v p m v at) (shift_lost (table_at s.tables s.cost) from from p m o at) (shift_gained (table_at s.tables s.cost) from from p m o at)
  shift_inside_by v p m o at from plan a can around = rw a.is (shift_inside_saves law s view v p m o at plan can around)

  pub shift_forwards_by : (v p m at : ℕ) (from : List ℕ) → IsPlan s.customers view.routes → AreStops s.customers view.routes v from
      → is_possible s.customers view.routes (Shift v p m v at) ≡ true → at < p
      → IsSaving s view (Shift v p m v at) (shift_lost (table_at s.tables s.cost) from from p m 0 at) (shift_gained (table_at s.tables s.cost) from from p m 0 at)
  shift_forwards_by v p m at from plan a can h =
      let f = (law.possible.shift s.customers view.routes v p m v at).0 can in
      shift_inside_by v p m 0 at from plan a can (around_before (route_at view.routes v) p m at f.from.low f.from.high h)

  pub shift_backwards_by : (v p m at : ℕ) (from : List ℕ) → IsPlan s.customers view.routes → AreStops s.customers view.routes v from
      → is_possible s.customers view.routes (Shift v p m v at) ≡ true → p < at
      → IsSaving s view (Shift v p m v at) (shift_lost (table_at s.tables s.cost) from from p m m at) (shift_gained (table_at s.tables s.cost) from from p m m at)
  shift_backwards_by v p m at from plan a can h =
      let f = (law.possible.shift s.customers view.routes v p m v at).0 can in
      shift_inside_by v p m m at from plan a can (around_after (route_at view.routes v) p m at f.from.low f.from.high h)

  pub swap_by : (v p w q : ℕ) (from to : List ℕ) → IsPlan s.customers view.routes → v ≢ w → AreStops s.customers view.routes v from → AreStops s.customers view.routes w to
      → is_possible s.customers view.routes (Swap v p w q) ≡ true
      → IsSaving s view (Swap v p w q) (swap_lost (table_at s.tables s.cost) from to p q) (swap_gained (table_at s.tables s.cost) from to p q)
  swap_by v p w q from to plan o a b can = rw (a.is, b.is) (swap_saves law s view v p w q plan can o)

  pub swap_inside_by : (v p q : ℕ) (from : List ℕ) → IsPlan s.customers view.routes → AreStops s.customers view.routes v from
      → is_possible s.customers view.routes (Swap v p v q) ≡ true → p + 1 < q
      → IsSaving s view (Swap v p v q) (swap_lost (table_at s.tables s.cost) from from p q) (swap_gained (table_at s.tables s.cost) from from p q)
  swap_inside_by v p q from plan a can order = rw a.is (swap_inside_saves law s view v p q plan can order)

  pub swap_next_by : (v p : ℕ) (from : List ℕ) → IsPlan s.customers view.routes → AreStops s.customers view.routes v from
      → is_possible s.customers view.routes (Swap v p v (p + 1)) ≡ true
      → IsSaving s view (Swap v p v (p + 1)) (next_lost (table_at s.tables s.cost) from p) (next_gained (table_at s.tables s.cost) from p)
  swap_next_by v p from plan a can = rw a.is (swap_next_saves law s view v p plan can)

  pub cross_by : (v k w l : ℕ) (from to : List ℕ) → IsPlan s.customers view.routes → AreStops s.customers view.routes v from → AreStops s.customers view.routes w to
      → is_possible s.customers view.routes (Cross v k w l) ≡ true
      → IsSaving s view (Cross v k w l) (cross_lost (table_at s.tables s.cost) from to k l) (cross_gained (table_at s.tables s.cost) from to k l)
  cross_by v k w l from to plan a b can = rw (a.is, b.is) (cross_saves law s view v k w l plan can)

  pub reverse_by : (v i j : ℕ) (from : List ℕ) → IsPlan s.customers view.routes → AreStops s.customers view.routes v from
      → is_possible s.customers view.routes (Reverse v i j) ≡ true
      → IsSaving s view (Reverse v i j) (reverse_lost (table_at s.tables s.cost) from i j) (reverse_gained (table_at s.tables s.cost) from i j)
  reverse_by v i j from plan a can = rw a.is (reverse_saves law s view v i j plan can)
