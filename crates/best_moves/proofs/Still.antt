-- What a move that counts leaves where it is: the frozen fronts, and pinned customers, who stay on their vehicle.
use Rattle.std.proofs.Common.{◌≡◌, ◌≢◌, ℕ, ◌+◌, ◌<◌, ◌⊎◌, inl, inr, arith, subst, sym, true, drop}
use Rattle.plan_core.specs.Plan.{route_at}
use Rattle.pin_core.specs.Pins.{front_of}
use Rattle.pin_core.specs.View.{pins_of}
use Rattle.move_core.specs.declared.moves.Move.TheVariants.{Shift, Swap, Reverse, Cross}
use Rattle.move_core.specs.Moves.{is_possible, stretch}
use Rattle.move_judge.specs.Allowed.{AreLoose, IsAllowed}
use Rattle.move_judge.specs.View.{IsViewOf}
use Rattle.best_moves.specs.Searched.{Searched, CountsIn, IsSearch, scope_of}

module _ (q : Searched) (is : IsSearch q) where
  view : IsViewOf (scope_of q) q.view
  view = is.laws.bounds.views q.bounded q.setting q.view is.view

  pub shift_free : (p m at : ℕ) → q.v ≢ q.w → CountsIn q (Shift q.v p m q.w at)
      → (front_of (pins_of q.view) q.v < p) × (front_of (pins_of q.view) q.w < at) × AreLoose (pins_of q.view) (stretch (route_at q.view.routes q.v) p m)
  shift_free p m at apart c = is.laws.free.shift (scope_of q) q.view q.skip q.v p m q.w at view apart c.possible c.allowed

  pub swap_free : (p at : ℕ) → q.v ≢ q.w → CountsIn q (Swap q.v p q.w at)
      → (front_of (pins_of q.view) q.v < p) × (front_of (pins_of q.view) q.w < at) × AreLoose (pins_of q.view) (stretch (route_at q.view.routes q.v) p 1)
  swap_free p at apart c = is.laws.free.swap (scope_of q) q.view q.skip q.v p q.w at view apart c.possible c.allowed

  cross_free : (k l : ℕ) → CountsIn q (Cross q.v k q.w l)
      → (front_of (pins_of q.view) q.v < k + 1) × (front_of (pins_of q.view) q.w < l + 1) × AreLoose (pins_of q.view) (drop k (route_at q.view.routes q.v)) × AreLoose (pins_of q.view) (drop l (route_at q.view.routes q.w))
  cross_free k l c = is.laws.free.cross (scope_of q) q.view q.skip q.v k q.w l view c.possible c.allowed

  -- a cross keeps of both vehicles all that have to be kept
  pub cross_kept : (k l : ℕ) → CountsIn q (Cross q.v k q.w l)
      → ((k < front_of (pins_of q.view) q.v) ⊎ ¬ AreLoose (pins_of q.view) (drop k (route_at q.view.routes q.v))) ⊎ ((l < front_of (pins_of q.view) q.w) ⊎ ¬ AreLoose (pins_of q.view) (drop l (route_at q.view.routes q.w))) → ⊥
  cross_kept k l c h = split h
    where
      split : ((k < front_of (pins_of q.view) q.v) ⊎ ¬ AreLoose (pins_of q.view) (drop k (route_at q.view.routes q.v))) ⊎ ((l < front_of (pins_of q.view) q.w) ⊎ ¬ AreLoose (pins_of q.view) (drop l (route_at q.view.routes q.w))) → ⊥
      split (inl (inl a)) = let free = (cross_free k l c).0 in omega arith
      split (inl (inr a)) = a (cross_free k l c).2
      split (inr (inl a)) = let free = (cross_free k l c).1 in omega arith
      split (inr (inr a)) = a (cross_free k l c).3

  -- a move inside a vehicle
  inside : q.v ≡ q.w → (P : ℕ → Type 0) → P q.w → P q.v
  inside same P h = subst P (sym same) h

  pub shift_inside_free : (p m at : ℕ) → q.v ≡ q.w → CountsIn q (Shift q.v p m q.w at) → (front_of (pins_of q.view) q.v < p) × (front_of (pins_of q.view) q.v < at)
  shift_inside_free p m at same c =
      is.laws.free.shift_inside (scope_of q) q.view q.skip q.v p m at view
      (inside same (λ z. is_possible q.setting.customers q.view.routes (Shift q.v p m z at) ≡ true) c.possible)
      (inside same (λ z. IsAllowed (scope_of q) q.view q.skip (Shift q.v p m z at)) c.allowed)

  pub swap_inside_free : (p at : ℕ) → q.v ≡ q.w → p < at → CountsIn q (Swap q.v p q.w at) → front_of (pins_of q.view) q.v < p
  swap_inside_free p at same order c =
      is.laws.free.swap_inside (scope_of q) q.view q.skip q.v p at view order
      (inside same (λ z. is_possible q.setting.customers q.view.routes (Swap q.v p z at) ≡ true) c.possible)
      (inside same (λ z. IsAllowed (scope_of q) q.view q.skip (Swap q.v p z at)) c.allowed)

  pub reverse_free : (i j : ℕ) → CountsIn q (Reverse q.v i j) → front_of (pins_of q.view) q.v < i
  reverse_free i j c = is.laws.free.reverse (scope_of q) q.view q.skip q.v i j view c.possible c.allowed
