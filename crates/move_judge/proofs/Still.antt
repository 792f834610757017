-- What a move that is allowed leaves where it is: the frozen fronts, and pinned customers, who stay on their vehicle.
use Rattle.std.proofs.Common.{◌≡◌, ◌≢◌, ℕ, ◌+◌, ◌<◌, ◌⊎◌, inl, inr, refl, arith, true, List, drop}
use Rattle.std.proofs.lemmas.Bool.{cases_order}
use Rattle.dimension_core.specs.Setting.{Setting}
use Rattle.plan_core.specs.Plan.{route_at}
use Rattle.pin_core.specs.Pins.{front_of}
use Rattle.pin_core.specs.View.{ViewState, pins_of}
use Rattle.move_core.specs.declared.moves.Move.{Move}
use Rattle.move_core.specs.declared.moves.Move.TheVariants.{Shift, Swap, Reverse, Cross}
use Rattle.move_core.specs.Moves.{is_possible, stretch}
use Rattle.route_parts.specs.View.{IsViewOf}
use Rattle.move_judge.specs.Allowed.{IsAllowed, AreLoose}
use Rattle.move_judge.specs.Given.{Laws}
use Rattle.move_judge.proofs.Between.{between_allowed, shift_between, swap_between, cross_between}
use Rattle.move_judge.proofs.Inside.{inside_allowed, shift_forwards, shift_backwards, swap_inside, reverse_inside}

module _ (law : Laws) (s : Setting) (view : ViewState) (skip : List Move) where
  pub shift_free : (v p m w at : ℕ) → IsViewOf s view → v ≢ w → is_possible s.customers view.routes (Shift v p m w at) ≡ true
      → IsAllowed s view skip (Shift v p m w at)
      → (front_of (pins_of view) v < p) × (front_of (pins_of view) w < at) × AreLoose (pins_of view) (stretch (route_at view.routes v) p m)
  shift_free v p m w at sound o can allowed =
      let a = (between_allowed law s view skip (Shift v p m w at) v w p at _ _ _ _ sound can (shift_between law s.customers view.routes v p m w at can o)).0 allowed in
      (a.front, a.other, a.loose)

  pub swap_free : (v p w at : ℕ) → IsViewOf s view → v ≢ w → is_possible s.customers view.routes (Swap v p w at) ≡ true
      → IsAllowed s view skip (Swap v p w at)
      → (front_of (pins_of view) v < p) × (front_of (pins_of view) w < at) × AreLoose (pins_of view) (stretch (route_at view.routes v) p 1)
  swap_free v p w at sound o can allowed =
      let a = (between_allowed law s view skip (Swap v p w at) v w p at _ _ _ _ sound can (swap_between law s.customers view.routes v p w at can o)).0 allowed in
      (a.front, a.other, a.loose)

  pub cross_free : (v k w l : ℕ) → IsViewOf s view → is_possible s.customers view.routes (Cross v k w l) ≡ true → IsAllowed s view skip (Cross v k w l)
      → (front_of (pins_of view) v < k + 1) × (front_of (pins_of view) w < l + 1) × AreLoose (pins_of view) (drop k (route_at view.routes v))
      × AreLoose (pins_of view) (drop l (route_at view.routes w))
  cross_free v k w l sound can allowed =
      let a = (between_allowed law s view skip (Cross v k w l) v w (k + 1) (l + 1) _ _ _ _ sound can (cross_between law s.customers view.routes v k w l can)).0 allowed in
      (a.front, a.other, a.loose, a.loose_back)

  pub shift_inside_free : (v p m at : ℕ) → IsViewOf s view → is_possible s.customers view.routes (Shift v p m v at) ≡ true
      → IsAllowed s view skip (Shift v p m v at) → (front_of (pins_of view) v < p) × (front_of (pins_of view) v < at)
  shift_inside_free v p m at sound can allowed = split (cases_order at p)
    where
      split : (at ≡ p) ⊎ ((at < p) ⊎ (p < at)) → (front_of (pins_of view) v < p) × (front_of (pins_of view) v < at)
      split (inl e) = absurd ((((law.possible.shift s.customers view.routes v p m v at).0 can).onto.inside refl).1 e)
      split (inr (inl h)) =
          let a = (inside_allowed law s view skip (Shift v p m v at) v at _ sound can (shift_forwards law s.customers view.routes v p m at can h)).0 allowed in
          let front = a.front in
          (omega arith, front)
      split (inr (inr h)) =
          let a = (inside_allowed law s view skip (Shift v p m v at) v p _ sound can (shift_backwards law s.customers view.routes v p m at can h)).0 allowed in
          let front = a.front in
          (front, omega arith)

  pub swap_inside_free : (v p at : ℕ) → IsViewOf s view → p < at → is_possible s.customers view.routes (Swap v p v at) ≡ true
      → IsAllowed s view skip (Swap v p v at) → front_of (pins_of view) v < p
  swap_inside_free v p at sound order can allowed =
      ((inside_allowed law s view skip (Swap v p v at) v p _ sound can (swap_inside law s.customers view.routes v p at can order)).0 allowed).front

  pub reverse_free : (v i j : ℕ) → IsViewOf s view → is_possible s.customers view.routes (Reverse v i j) ≡ true
      → IsAllowed s view skip (Reverse v i j) → front_of (pins_of view) v < i
  reverse_free v i j sound can allowed =
      ((inside_allowed law s view skip (Reverse v i j) v i _ sound can (reverse_inside law s.customers view.routes v i j can)).0 allowed).front
