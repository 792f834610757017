-- Moves whose numbers are in range, by the stops of their vehicles.
use Rattle.std.proofs.Common.{◌≡◌, ◌≢◌, ◌==◌, ◌∙◌, ℕ, ◌+◌, ◌<◌, ◌≤◌, ◌⊎◌, inl, inr, ap, refl, sym, arith, List, length, Bool, true}
use Rattle.std.proofs.lemmas.Bool.{eqb-true}
use Rattle.plan_core.specs.Plan.{route_at}
use Rattle.dimension_core.specs.Setting.{Setting}
use Rattle.pin_core.specs.View.{ViewState}
use Rattle.move_core.specs.declared.moves.Move.{Move}
use Rattle.move_core.specs.declared.moves.Move.TheVariants.{Insert, Remove, Shift, Swap, Reverse, Cross}
use Rattle.move_core.specs.Moves.{is_possible}
use Rattle.move_judge.specs.Near.{IsNear}
use Rattle.way_costs.specs.Ways.{AreStops}
use Rattle.best_moves.specs.Best.{IsIdle}
use Rattle.best_moves.specs.Laws.{Laws}

last_in : (k m n : ℕ) → n ≡ m + 2 → k < n → k ≤ m + 1
last_in k m n e h = omega arith

before_last : (k m n : ℕ) → n ≡ m + 2 → k + 1 < n → k ≤ m
before_last k m n e h = omega arith

none_in : (k m : ℕ) → m ≡ 0 → 1 ≤ k → k ≤ m → ⊥
none_in k m e l h = absurd (omega arith)

none_shifted : (p m n : ℕ) → n ≡ 0 → 1 ≤ p → 1 ≤ m → p + m ≤ n + 1 → ⊥
none_shifted p m n e l k h = absurd (omega arith)

none_reversed : (i j n : ℕ) → n ≡ 0 → i < j → j ≤ n → ⊥
none_reversed i j n e l h = absurd (omega arith)

none_kept : (k n : ℕ) → n ≡ 0 → k < n → ⊥
none_kept k n e h = absurd (omega arith)

module _ (law : Laws) (n : ℕ) (routes : List (List ℕ)) where
  pub shift_can : (v p m w at : ℕ) (from to : List ℕ) → AreStops n routes v from → AreStops n routes w to → v ≢ w
      → 1 ≤ p → 1 ≤ m → p + m < length from → 1 ≤ at → at < length to → is_possible n routes (Shift v p m w at) ≡ true
  shift_can v p m w at from to a b apart low some fit l h =
      (law.possible.shift n routes v p m w at).1 (record {
        from = record { vehicle = record { low = a.low; high = a.high }; some = some; low = low; high = last_in (p + m) _ _ a.sized fit };
        onto = record { vehicle = record { low = b.low; high = b.high }; low = l; inside = λ e. absurd (apart e); outside = λ e. last_in at _ _ b.sized h };
      })

  pub shift_inside_can : (v p m at : ℕ) (from : List ℕ) → AreStops n routes v from
      → 1 ≤ p → 1 ≤ m → p + m < length from → 1 ≤ at → at + m < length from → at ≢ p → is_possible n routes (Shift v p m v at) ≡ true
  shift_inside_can v p m at from a low some fit l h moves =
      (law.possible.shift n routes v p m v at).1 (record {
        from = record { vehicle = record { low = a.low; high = a.high }; some = some; low = low; high = last_in (p + m) _ _ a.sized fit };
        onto = record { vehicle = record { low = a.low; high = a.high }; low = l; inside = λ e. (last_in (at + m) _ _ a.sized h, moves); outside = λ o. absurd (o refl) };
      })

  pub swap_can : (v p w q : ℕ) (from to : List ℕ) → AreStops n routes v from → AreStops n routes w to → (v ≡ w → p ≢ q)
      → 1 ≤ p → p + 1 < length from → 1 ≤ q → q + 1 < length to → is_possible n routes (Swap v p w q) ≡ true
  swap_can v p w q from to a b apart lp hp lq hq =
      (law.possible.swap n routes v p w q).1 (record {
        vehicle = record { low = a.low; high = a.high };
        other = record { low = b.low; high = b.high };
        place = record { low = lp; high = before_last p _ _ a.sized hp };
        at = record { low = lq; high = before_last q _ _ b.sized hq };
        apart = apart;
      })

  pub reverse_can : (v i j : ℕ) (from : List ℕ) → AreStops n routes v from → 1 ≤ i → i < j → j + 1 < length from → is_possible n routes (Reverse v i j) ≡ true
  reverse_can v i j from a low order h =
      (law.possible.reverse n routes v i j).1 (record { vehicle = record { low = a.low; high = a.high }; low = low; order = order; high = before_last j _ _ a.sized h })

  pub cross_can : (v k w l : ℕ) (from to : List ℕ) → AreStops n routes v from → AreStops n routes w to → v ≢ w
      → k + 1 < length from → l + 1 < length to → (k < length (route_at routes v)) ⊎ (l < length (route_at routes w)) → is_possible n routes (Cross v k w l) ≡ true
  cross_can v k w l from to a b apart hk hl some =
      (law.possible.cross n routes v k w l).1 (record {
        vehicle = record { low = a.low; high = a.high };
        other = record { low = b.low; high = b.high };
        apart = apart;
        kept = before_last k _ _ a.sized hk;
        kept_other = before_last l _ _ b.sized hl;
        some = some;
      })

  -- vehicles without customers give none away and change none
  pub none_possible : (v w : ℕ) → length (route_at routes v) ≡ 0 → length (route_at routes w) ≡ 0
      → (mv : Move) → IsNear v w mv → is_possible n routes mv ≡ true → ⊥
  none_possible v w e f (Insert c u p) near can = near
  none_possible v w e f (Remove u p) near can = near
  none_possible v w e f (Shift u p m x a) near can =
      let from = ((law.possible.shift n routes u p m x a).0 can).from in
      absurd (none_shifted p m _ (ap (λ (k : ℕ). length (route_at routes k)) near.0 ∙ e) from.low from.some from.high)
  none_possible v w e f (Swap u p x a) near can =
      let place = ((law.possible.swap n routes u p x a).0 can).place in
      absurd (none_in p _ (ap (λ (k : ℕ). length (route_at routes k)) near.0 ∙ e) place.low place.high)
  none_possible v w e f (Reverse u i j) near can =
      let all = (law.possible.reverse n routes u i j).0 can in
      absurd (none_reversed i j _ (ap (λ (k : ℕ). length (route_at routes k)) near.0 ∙ e) all.order all.high)
  none_possible v w e f (Cross u k x l) near can = elim ((law.possible.cross n routes u k x l).0 can).some [
    | inl less ↦ absurd (none_kept k _ (ap (λ (k : ℕ). length (route_at routes k)) near.0 ∙ e) less)
    | inr less ↦ absurd (none_kept l _ (ap (λ (k : ℕ). length (route_at routes k)) near.1 ∙ f) less)
  ]

-- so no move near two vehicles counts where a test of each says that it has none
pub none_idle : (law : Laws) (view : ViewState) (v w : ℕ) (r q : List ℕ) (x y : Bool) → r ≡ route_at view.routes v → q ≡ route_at view.routes w → x ≡ (length r == 0) → y ≡ (length q == 0)
    → x ≡ true → y ≡ true → (s : Setting) (skip : List Move) → IsIdle s view skip v w
none_idle law view v w r q x y here there one other first second s skip = λ mv counts.
    none_possible law s.customers view.routes v w (ap length (sym here) ∙ eqb-true (length r) 0 (sym one ∙ first)) (ap length (sym there) ∙ eqb-true (length q) 0 (sym other ∙ second)) mv counts.near counts.possible
