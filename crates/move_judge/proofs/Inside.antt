use Rattle.std.proofs.Common.{◌≡◌, ◌∙◌, ℕ, zero, ◌+◌, ◌-◌, ◌<◌, ◌≤◌, ◌⊎◌, ◌↔◌, inl, inr, refl, sym, ap, subst, arith, min, List, [], ◌∷◌, ◌++◌, length, take, drop, reverse, slice_set, Some, true, Bool, IsTrue, Contains, append_assoc, All}
use Rattle.std.proofs.lemmas.Bool.{cases_eq, eq-eqb}
use Rattle.std.proofs.lemmas.List.{take-append-drop, take_at, drop-set-lt, length-set, length-append, length-take-le, length-drop}
use Rattle.plan_core.specs.Plan.{Changes, IsPlan, IsNamed, AreApart, route_at, with_routes}
use Rattle.pin_core.specs.Pins.{PinState, StandsOn, DoPinsHold, front_of}
use Rattle.pin_core.specs.View.{ViewState, pins_of}
use Rattle.dimension_core.specs.Setting.{Setting}
use Rattle.dimension_core.specs.Feasible.{FitsAll}
use Rattle.dimension_core.specs.NewRoutes.{AllFit}
use Rattle.move_core.specs.declared.moves.Move.{Move}
use Rattle.move_core.specs.declared.moves.Move.TheVariants.{Shift, Swap, Reverse}
use Rattle.move_core.specs.Moves.{is_possible, changes_by, effect, stretch, with_customer, customer_at}
use Rattle.route_parts.specs.View.{IsViewOf}
use Rattle.move_judge.specs.Allowed.{IsAllowed}
use Rattle.move_judge.specs.Between.{IsInside}
use Rattle.move_judge.specs.Given.{Laws}
use Rattle.move_judge.proofs.Stretches.{set_parts, stretch_head}
use Rattle.move_judge.proofs.Allowing.{has_effect, freezes_one, AreKnown, at_most}

-- what a view allows of a move inside a vehicle
pub record AllowsInside (s : Setting) (view : ViewState) (skip : List Move) (mv : Move) (v x : ℕ) (r : List ℕ) : Type 0 where
  pub front : front_of (pins_of view) v < x
  pub fresh : ¬ Contains skip mv
  pub fits : FitsAll s v r

-- one customer as a stretch
one_stretch : (r : List ℕ) (p : ℕ) → 1 ≤ p → p ≤ length r → stretch r p 1 ≡ customer_at r p ∷ []
one_stretch r p low high = stretch_head r (p - 1) zero (omega arith)

-- two customers of a route that change places, in parts
swap_parts : (r : List ℕ) (p q c d : ℕ) → 1 ≤ p → p < q → q ≤ length r
    → with_customer (with_customer r p d) q c ≡ take (p - 1) r ++ (d ∷ (take (q - (p + 1)) (drop p r) ++ (c ∷ drop q r)))
swap_parts r p q c d low order high =
    let a : List ℕ = take (p - 1) r in
    let m : ℕ = q - (p + 1) in
    let b : List ℕ = take m (drop p r) in
    let e1 : p - 1 + 1 ≡ p = omega arith in
    let e2 : q - 1 + 1 ≡ q = omega arith in
    let long : length (slice_set r (p - 1) d) ≡ length r = length-set r (p - 1) d in
    let one : slice_set r (p - 1) d ≡ a ++ (d ∷ drop p r) = set_parts r (p - 1) d (omega arith) ∙ ap (λ (k : ℕ). a ++ (d ∷ drop k r)) e1 in
    let two : slice_set (slice_set r (p - 1) d) (q - 1) c ≡ take (q - 1) (slice_set r (p - 1) d) ++ (c ∷ drop q (slice_set r (p - 1) d)) =
    set_parts (slice_set r (p - 1) d) (q - 1) c (omega arith) ∙ ap (λ (k : ℕ). take (q - 1) (slice_set r (p - 1) d) ++ (c ∷ drop k (slice_set r (p - 1) d))) e2 in
    let back : drop q (slice_set r (p - 1) d) ≡ drop q r = drop-set-lt q r (p - 1) d (omega arith) in
    let split : drop p r ≡ b ++ drop m (drop p r) = sym (take-append-drop m (drop p r)) in
    let whole : slice_set r (p - 1) d ≡ (a ++ (d ∷ b)) ++ drop m (drop p r) =
    one ∙ ap (λ (xs : List ℕ). a ++ (d ∷ xs)) split ∙ sym (append_assoc a (d ∷ b) (drop m (drop p r))) in
    let la : length (take (p - 1) r) ≡ p - 1 = length-take-le (p - 1) r (omega arith) in
    let gone : length (drop p r) ≡ length r - p = length-drop p r in
    let lb : length (take (q - (p + 1)) (drop p r)) ≡ q - (p + 1) = length-take-le (q - (p + 1)) (drop p r) (omega arith) in
    let both : length (take (p - 1) r ++ (d ∷ take (q - (p + 1)) (drop p r))) ≡ length (take (p - 1) r) + length (d ∷ take (q - (p + 1)) (drop p r)) =
    length-append (take (p - 1) r) (d ∷ take (q - (p + 1)) (drop p r)) in
    let front : take (q - 1) (slice_set r (p - 1) d) ≡ a ++ (d ∷ b) = ap (take (q - 1)) whole ∙ take_at (a ++ (d ∷ b)) (drop m (drop p r)) (q - 1) (omega arith) in
    two ∙ ap (λ (xs : List ℕ). xs ++ (c ∷ drop q (slice_set r (p - 1) d))) front ∙ ap (λ (xs : List ℕ). (a ++ (d ∷ b)) ++ (c ∷ xs)) back
    ∙ append_assoc a (d ∷ b) (c ∷ drop q r)

module _ (law : Laws) where
  -- a move inside a vehicle keeps the pins holding
  pub pins_inside : (n : ℕ) (s : PinState) (routes : List (List ℕ)) (mv : Move) (v x : ℕ) (r : List ℕ) → IsPlan n routes → is_possible n routes mv ≡ true
      → IsInside routes mv v x r → DoPinsHold s routes → DoPinsHold s (with_routes (changes_by routes mv) routes)
  pins_inside n s routes mv v x r plan can b held =
      let changes : Changes = (v, r) ∷ [] in
      let has = has_effect n routes mv can in
      let apart : AreApart (length routes) changes = subst (λ (cs : Changes). AreApart (length routes) cs) b.changes (law.names.changes n routes mv (changes_by routes mv) has).apart in
      let made : effect n routes mv ≡ Some ((v, r) ∷ []) = has ∙ ap (λ (cs : Changes). Some cs) b.changes in
      let same = (law.inside n routes mv v r b.kind made).same in
      let long : length (with_routes changes routes) ≡ length routes = law.replaced.count changes routes in
      subst (λ (cs : Changes). DoPinsHold s (with_routes cs routes)) (sym b.changes)
      (λ c low u e. either c u apart long same (held c low u e) (cases_eq u v))
    where
      stands : (c u : ℕ) (xs : List ℕ) → length (with_routes ((v, r) ∷ []) routes) ≡ length routes → route_at (with_routes ((v, r) ∷ []) routes) u ≡ xs
          → StandsOn routes c u → Contains xs c → StandsOn (with_routes ((v, r) ∷ []) routes) c u
      stands c u xs long e old h =
          let high : u ≤ length routes = old.1.high in
          law.places.somewhere (with_routes ((v, r) ∷ []) routes) c u old.1.low (omega arith) (subst (λ (ys : List ℕ). Contains ys c) (sym e) h)

      not_named : (u : ℕ) → (u ≡ v → ⊥) → ¬ IsNamed ((v, r) ∷ []) u
      not_named u o (inl e) = o e
      not_named u o (inr h) = h

      either : (c u : ℕ) → AreApart (length routes) ((v, r) ∷ []) → length (with_routes ((v, r) ∷ []) routes) ≡ length routes
          → ((d : ℕ) → Contains (route_at routes v) d ↔ Contains r d) → StandsOn routes c u → (u ≡ v) ⊎ (u ≡ v → ⊥) → StandsOn (with_routes ((v, r) ∷ []) routes) c u
      either c u apart long same old (inl e) =
          let here : Contains (route_at routes v) c = subst (λ (w : ℕ). Contains (route_at routes w) c) e (law.places.among routes c u old.0 old.1) in
          let new : route_at (with_routes ((v, r) ∷ []) routes) u ≡ r = ap (route_at (with_routes ((v, r) ∷ []) routes)) e ∙ law.replaced.first v r [] routes apart in
          stands c u r long new old ((same c).0 here)
      either c u apart long same old (inr o) =
          stands c u (route_at routes u) long (law.replaced.others ((v, r) ∷ []) routes u apart old.1.low (not_named u o)) old (law.places.among routes c u old.0 old.1)

  pub inside_allowed : (s : Setting) (view : ViewState) (skip : List Move) (mv : Move) (v x : ℕ) (r : List ℕ) → IsViewOf s view
      → is_possible s.customers view.routes mv ≡ true → IsInside view.routes mv v x r → IsAllowed s view skip mv ↔ AllowsInside s view skip mv v x r
  inside_allowed s view skip mv v x r sound can b =
      let fronts = freezes_one law s.customers (pins_of view) view.routes mv v r sound.plan can b.changes b.vehicle.0 b.vehicle.1 in (
        λ a.
            let fit = subst (λ (cs : Changes). AllFit s cs) b.changes a.fits in
            record { front = subst (λ (k : ℕ). front_of (pins_of view) v < k) b.first (fronts.0 a.freezes); fresh = a.fresh; fits = fit.0 },
        λ a.
            record {
              fits = subst (λ (cs : Changes). AllFit s cs) (sym b.changes) (a.fits, tt);
              freezes = fronts.1 (subst (λ (k : ℕ). front_of (pins_of view) v < k) (sym b.first) a.front);
              pins = pins_inside s.customers (pins_of view) view.routes mv v x r sound.plan can b sound.holding;
              fresh = a.fresh;
            },
      )

  -- the customers of the new route are known
  pub known_inside : (s : Setting) (view : ViewState) (mv : Move) (v x : ℕ) (r : List ℕ) → IsViewOf s view
      → is_possible s.customers view.routes mv ≡ true → IsInside view.routes mv v x r → AreKnown law s.customers r
  known_inside s view mv v x r sound can b =
      let routes = view.routes in
      let n = s.customers in
      let has = has_effect n routes mv can in
      let changes : Changes = (v, r) ∷ [] in
      let apart : AreApart (length routes) changes = subst (λ (cs : Changes). AreApart (length routes) cs) b.changes (law.names.changes n routes mv (changes_by routes mv) has).apart in
      let after : IsPlan n (with_routes changes routes) = subst (λ (cs : Changes). IsPlan n (with_routes cs routes)) b.changes (law.plans.plan n routes mv (changes_by routes mv) sound.plan has) in
      law.known.new_known n changes routes 0 (v, r) after apart refl

  -- of a list that is the new route: who is known, and when it is in bounds
  pub one_known : (s : Setting) (view : ViewState) (mv : Move) (v x : ℕ) (r r' : List ℕ) → IsViewOf s view
      → is_possible s.customers view.routes mv ≡ true → IsInside view.routes mv v x r → r' ≡ r → All (λ c. c ≤ s.customers) r'
  one_known s view mv v x r r' sound can b e =
      at_most law s.customers r' (subst (λ (a : List ℕ). AreKnown law s.customers a) (sym e) (known_inside s view mv v x r sound can b))

  pub fits_changed : (s : Setting) (routes : List (List ℕ)) (mv : Move) (v x : ℕ) (r r' : List ℕ) (p : Bool)
      → IsInside routes mv v x r → IsTrue p ↔ FitsAll s v r' → r' ≡ r → IsTrue p ↔ AllFit s (changes_by routes mv)
  fits_changed s routes mv v x r r' p b is e = (
    λ t. subst (λ (cs : Changes). AllFit s cs) (sym b.changes) (subst (λ (a : List ℕ). FitsAll s v a) e (is.0 t), tt),
    λ all.
        let fit = subst (λ (cs : Changes). AllFit s cs) b.changes all in
        is.1 (subst (λ (a : List ℕ). FitsAll s v a) (sym e) fit.0),
  )

  -- a shift to the front, and to the back
  pub shift_forwards : (n : ℕ) (routes : List (List ℕ)) (v p m at : ℕ) → is_possible n routes (Shift v p m v at) ≡ true → at < p
      → IsInside routes (Shift v p m v at) v at
      (take (at - 1) (route_at routes v) ++ (stretch (route_at routes v) p m ++ (take (p - at) (drop (at - 1) (route_at routes v)) ++ drop (p - 1 + m) (route_at routes v))))
  shift_forwards n routes v p m at can h =
      let f = (law.possible.shift n routes v p m v at).0 can in
      let high : p + m ≤ length (route_at routes v) + 1 = f.from.high in
      let least : min p at ≡ at = omega arith in
      record {
        vehicle = (f.from.vehicle.low, f.from.vehicle.high);
        changes = rw (eq-eqb v v refl, law.parts.before (route_at routes v) p m at f.onto.low (omega arith) (omega arith)) refl;
        first = rw (eq-eqb v v refl) least;
        kind = tt;
      }

  pub shift_backwards : (n : ℕ) (routes : List (List ℕ)) (v p m at : ℕ) → is_possible n routes (Shift v p m v at) ≡ true → p < at
      → IsInside routes (Shift v p m v at) v p
      (take (p - 1) (route_at routes v) ++ (take (at - p) (drop (p - 1 + m) (route_at routes v)) ++ (stretch (route_at routes v) p m ++ drop (at - 1 + m) (route_at routes v))))
  shift_backwards n routes v p m at can h =
      let f = (law.possible.shift n routes v p m v at).0 can in
      let least : min p at ≡ p = omega arith in
      record {
        vehicle = (f.from.vehicle.low, f.from.vehicle.high);
        changes = rw (eq-eqb v v refl, law.parts.after (route_at routes v) p m at f.from.low (omega arith) (f.onto.inside refl).0) refl;
        first = rw (eq-eqb v v refl) least;
        kind = tt;
      }

  -- a swap
  pub swap_inside : (n : ℕ) (routes : List (List ℕ)) (v p q : ℕ) → is_possible n routes (Swap v p v q) ≡ true → p < q
      → IsInside routes (Swap v p v q) v p
      (take (p - 1) (route_at routes v) ++ (stretch (route_at routes v) q 1 ++ (take (q - (p + 1)) (drop p (route_at routes v)) ++ (stretch (route_at routes v) p 1 ++ drop q (route_at routes v)))))
  swap_inside n routes v p q can h =
      let f = (law.possible.swap n routes v p v q).0 can in
      let r = route_at routes v in
      let least : min p q ≡ p = omega arith in
      record {
        vehicle = (f.vehicle.low, f.vehicle.high);
        changes = rw (
          eq-eqb v v refl,
          one_stretch r q f.at.low f.at.high,
          one_stretch r p f.place.low f.place.high,
          swap_parts r p q (customer_at r p) (customer_at r q) f.place.low h f.at.high,
        ) refl;
        first = rw (eq-eqb v v refl) least;
        kind = tt;
      }

  -- a reverse
  pub reverse_inside : (n : ℕ) (routes : List (List ℕ)) (v i j : ℕ) → is_possible n routes (Reverse v i j) ≡ true
      → IsInside routes (Reverse v i j) v i (take (i - 1) (route_at routes v) ++ (reverse (stretch (route_at routes v) i (j - i + 1)) ++ drop j (route_at routes v)))
  reverse_inside n routes v i j can =
      let f = (law.possible.reverse n routes v i j).0 can in
      record { vehicle = (f.vehicle.low, f.vehicle.high); changes = refl; first = refl; kind = tt }
