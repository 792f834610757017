use Rattle.std.proofs.Common.{◌≡◌, ◌≢◌, ◌∙◌, ℕ, zero, ◌+◌, ◌-◌, ◌<◌, ◌≤◌, ◌⊎◌, ◌↔◌, inl, inr, refl, sym, ap, subst, arith, List, [], ◌∷◌, ◌++◌, length, take, drop, slice_get, Some, None, true, false, Bool, IsTrue, Contains, All}
use Rattle.std.proofs.lemmas.Bool.{ne_eqb, eq-eqb, false≢true}
use Rattle.plan_core.specs.declared.touch.Touch.{Touch}
use Rattle.plan_core.specs.Plan.{Changes, IsPlan, AreApart, route_at, with_routes}
use Rattle.pin_core.specs.Pins.{PinState, StandsOn, DoPinsHold, pin_of, front_of}
use Rattle.pin_core.specs.View.{ViewState, pins_of}
use Rattle.dimension_core.specs.Setting.{Setting}
use Rattle.dimension_core.specs.Feasible.{FitsAll}
use Rattle.dimension_core.specs.NewRoutes.{AllFit}
use Rattle.move_core.specs.declared.moves.Move.{Move}
use Rattle.move_core.specs.declared.moves.Move.TheVariants.{Shift, Swap, Cross}
use Rattle.move_core.specs.Moves.{is_possible, changes_by, effect, stretch, without, with_stretch, with_customer, customer_at, crossed}
use Rattle.move_core.specs.Touched.{touches, touched_by}
use Rattle.route_parts.specs.View.{IsViewOf}
use Rattle.move_judge.specs.Allowed.{IsAllowed, AreLoose}
use Rattle.move_judge.specs.Between.{IsBetween}
use Rattle.move_judge.specs.Given.{Laws}
use Rattle.move_judge.proofs.Stretches.{stretch_head, set_parts}
use Rattle.move_judge.proofs.Allowing.{has_effect, freezes_two, loose_from_held, held_from_loose, touched_in, touched_two, touched_among, touched_left, touched_right, IsTouchedBy, AreKnown, at_most}

-- what a view allows of a move between two vehicles
pub record AllowsBetween (s : Setting) (view : ViewState) (skip : List Move) (mv : Move) (v w x y : ℕ) (over back r q : List ℕ) : Type 0 where
  pub front : front_of (pins_of view) v < x
  pub other : front_of (pins_of view) w < y
  pub loose : AreLoose (pins_of view) over
  pub loose_back : AreLoose (pins_of view) back
  pub fresh : ¬ Contains skip mv
  pub fits : FitsAll s v r
  pub onto : FitsAll s w q

module _ (law : Laws) where
  -- the pins go on holding exactly where nobody that is pinned goes over
  pub pins_between : (n : ℕ) (s : PinState) (routes : List (List ℕ)) (mv : Move) (v w x y : ℕ) (over back r q : List ℕ) → IsPlan n routes
      → is_possible n routes mv ≡ true → IsBetween routes mv v w x y over back r q → DoPinsHold s routes
      → DoPinsHold s (with_routes (changes_by routes mv) routes) ↔ (AreLoose s over × AreLoose s back)
  pins_between n s routes mv v w x y over back r q plan can b held =
      let changes : Changes = (v, r) ∷ (w, q) ∷ [] in
      let has = has_effect n routes mv can in
      let apart : AreApart (length routes) changes = subst (λ (cs : Changes). AreApart (length routes) cs) b.changes (law.names.changes n routes mv (changes_by routes mv) has).apart in
      let after : IsPlan n (with_routes changes routes) = subst (λ (cs : Changes). IsPlan n (with_routes cs routes)) b.changes (law.plans.plan n routes mv (changes_by routes mv) plan has) in
      let made : effect n routes mv ≡ Some ((v, r) ∷ (w, q) ∷ []) = has ∙ ap (λ (cs : Changes). Some cs) b.changes in
      let long : length (with_routes changes routes) ≡ length routes = law.replaced.count changes routes in
      let hv : v ≤ length routes = b.vehicle.1 in
      let hw : w ≤ length routes = b.other.1 in
      let stands : (c : ℕ) → Contains (route_at routes v) c → StandsOn routes c v = λ c h. law.places.somewhere routes c v b.vehicle.0 b.vehicle.1 h in
      let stands_there : (c : ℕ) → Contains (route_at routes w) c → StandsOn routes c w = λ c h. law.places.somewhere routes c w b.other.0 b.other.1 h in
      let comes : (c : ℕ) → Contains r c → StandsOn (with_routes changes routes) c v =
      λ c h. law.places.somewhere (with_routes changes routes) c v b.vehicle.0 (omega arith)
      (subst (λ (xs : List ℕ). Contains xs c) (sym (law.replaced.first v r ((w, q) ∷ []) routes apart)) h) in
      let goes : (c : ℕ) → Contains q c → StandsOn (with_routes changes routes) c w =
      λ c h. law.places.somewhere (with_routes changes routes) c w b.other.0 (omega arith)
      (subst (λ (xs : List ℕ). Contains xs c) (sym (law.replaced.second w q (v, r) routes apart)) h) in
      let each : DoPinsHold s (with_routes changes routes) → (c : ℕ) → IsTouchedBy law (touched_by routes mv) c → pin_of s c ≡ None =
      λ now c t. subst (λ (d : ℕ). pin_of s d ≡ None) t.1.2
      (either t.1.0.customer now plan after held (law.between n routes mv v w r q made t.0 t.1.0 t.1.1) b.apart (stands t.1.0.customer) (stands_there t.1.0.customer) (comes t.1.0.customer) (goes t.1.0.customer)) in (
        λ holds.
            let now = subst (λ (cs : Changes). DoPinsHold s (with_routes cs routes)) b.changes holds in
            (λ c inside. each now c (b.over_touched c inside), λ c inside. each now c (b.back_touched c inside)),
        λ loose. held_from_loose law n s routes mv can held (λ k t e. both t (b.touched k t e) loose.0 loose.1),
      )
    where
      both : (t : Touch) → Contains over t.customer ⊎ Contains back t.customer → AreLoose s over → AreLoose s back → pin_of s t.customer ≡ None
      both t (inl a) one two = one t.customer a
      both t (inr a) one two = two t.customer a

      either : {u : ℕ} (c : ℕ) → DoPinsHold s (with_routes ((v, r) ∷ (w, q) ∷ []) routes) → IsPlan n routes → IsPlan n (with_routes ((v, r) ∷ (w, q) ∷ []) routes) → DoPinsHold s routes
          → ((u ≡ v) × Contains (route_at routes v) c × Contains q c) ⊎ ((u ≡ w) × Contains (route_at routes w) c × Contains r c) → v ≢ w
          → (Contains (route_at routes v) c → StandsOn routes c v) → (Contains (route_at routes w) c → StandsOn routes c w)
          → (Contains r c → StandsOn (with_routes ((v, r) ∷ (w, q) ∷ []) routes) c v) → (Contains q c → StandsOn (with_routes ((v, r) ∷ (w, q) ∷ []) routes) c w)
          → pin_of s c ≡ None
      either c now plan after held (inl (e, a, d)) o stands there comes goes =
          loose_from_held law n s routes (with_routes ((v, r) ∷ (w, q) ∷ []) routes) c v w plan after held now o (stands a) (goes d)
      either c now plan after held (inr (e, a, d)) o stands there comes goes =
          loose_from_held law n s routes (with_routes ((v, r) ∷ (w, q) ∷ []) routes) c w v plan after held now (λ same. o (sym same)) (there a) (comes d)

  pub between_allowed : (s : Setting) (view : ViewState) (skip : List Move) (mv : Move) (v w x y : ℕ) (over back r q : List ℕ) → IsViewOf s view
      → is_possible s.customers view.routes mv ≡ true → IsBetween view.routes mv v w x y over back r q
      → IsAllowed s view skip mv ↔ AllowsBetween s view skip mv v w x y over back r q
  between_allowed s view skip mv v w x y over back r q sound can b =
      let fronts = freezes_two law s.customers (pins_of view) view.routes mv v w r q sound.plan can b.changes b.vehicle.0 b.vehicle.1 b.other.0 b.other.1 in
      let pins = pins_between s.customers (pins_of view) view.routes mv v w x y over back r q sound.plan can b sound.holding in (
        λ a.
            let fs = fronts.0 a.freezes in
            let fit = subst (λ (cs : Changes). AllFit s cs) b.changes a.fits in
            let loose = pins.0 a.pins in
            record {
              front = subst (λ (k : ℕ). front_of (pins_of view) v < k) b.first fs.0;
              other = subst (λ (k : ℕ). front_of (pins_of view) w < k) b.second fs.1;
              loose = loose.0;
              loose_back = loose.1;
              fresh = a.fresh;
              fits = fit.0;
              onto = fit.1.0;
            },
        λ a.
            record {
              fits = subst (λ (cs : Changes). AllFit s cs) (sym b.changes) (a.fits, (a.onto, tt));
              freezes = fronts.1 (subst (λ (k : ℕ). front_of (pins_of view) v < k) (sym b.first) a.front, subst (λ (k : ℕ). front_of (pins_of view) w < k) (sym b.second) a.other);
              pins = pins.1 (a.loose, a.loose_back);
              fresh = a.fresh;
            },
      )

  -- a shift of some customers goes over with them
  pub shift_between : (n : ℕ) (routes : List (List ℕ)) (v p m w at : ℕ) → is_possible n routes (Shift v p m w at) ≡ true → v ≢ w
      → IsBetween routes (Shift v p m w at) v w p at (stretch (route_at routes v) p m) []
      (without (route_at routes v) p m) (with_stretch (route_at routes w) at (stretch (route_at routes v) p m))
  shift_between n routes v p m w at can o =
      let f = (law.possible.shift n routes v p m w at).0 can in
      let r = route_at routes v in
      let q = route_at routes w in
      record {
        apart = o;
        vehicle = (f.from.vehicle.low, f.from.vehicle.high);
        other = (f.onto.vehicle.low, f.onto.vehicle.high);
        changes = rw (ne_eqb v w o) refl;
        first = rw (ne_eqb v w o, eq-eqb v v refl) refl;
        second = rw (ne_eqb v w o, ne_eqb w v (λ e. o (sym e))) refl;
        over_touched = λ c h. touched_among law v p (stretch r p m) c h;
        back_touched = λ c h. absurd (none c h);
        touched = λ k t e. inl (touched_in law v p (stretch r p m) k t e);
      }
    where
      none : (c : ℕ) → Contains [] c → ⊥
      none c (k, h, e) = absurd (omega arith)

  -- one customer as a stretch
  pub one_stretch : (r : List ℕ) (p : ℕ) → 1 ≤ p → p ≤ length r → stretch r p 1 ≡ customer_at r p ∷ []
  one_stretch r p low high = stretch_head r (p - 1) zero (omega arith)

  pub customer_parts : (r q : List ℕ) (p at : ℕ) → 1 ≤ p → p ≤ length r → 1 ≤ at → at ≤ length q
      → with_customer r p (customer_at q at) ≡ take (p - 1) r ++ (stretch q at 1 ++ drop (p - 1 + 1) r)
  customer_parts r q p at lp hp la ha =
      set_parts r (p - 1) (customer_at q at) (omega arith)
      ∙ ap (λ (s : List ℕ). take (p - 1) r ++ (s ++ drop (p - 1 + 1) r)) (sym (one_stretch q at la ha))

  -- a swap sends one customer each way
  pub swap_between : (n : ℕ) (routes : List (List ℕ)) (v p w at : ℕ) → is_possible n routes (Swap v p w at) ≡ true → v ≢ w
      → IsBetween routes (Swap v p w at) v w p at (stretch (route_at routes v) p 1) (stretch (route_at routes w) at 1)
      (take (p - 1) (route_at routes v) ++ (stretch (route_at routes w) at 1 ++ drop (p - 1 + 1) (route_at routes v)))
      (take (at - 1) (route_at routes w) ++ (stretch (route_at routes v) p 1 ++ drop (at - 1 + 1) (route_at routes w)))
  swap_between n routes v p w at can o =
      let f = (law.possible.swap n routes v p w at).0 can in
      let r = route_at routes v in
      let q = route_at routes w in
      let er = customer_parts r q p at f.place.low f.place.high f.at.low f.at.high in
      let eq = customer_parts q r at p f.at.low f.at.high f.place.low f.place.high in
      let sr = one_stretch r p f.place.low f.place.high in
      let sq = one_stretch q at f.at.low f.at.high in
      record {
        apart = o;
        vehicle = (f.vehicle.low, f.vehicle.high);
        other = (f.other.low, f.other.high);
        changes = rw (ne_eqb v w o) (ap (λ (x : List ℕ). let c : Changes = (v, x) ∷ (w, with_customer q at (customer_at r p)) ∷ [] in c) er
            ∙ ap (λ (x : List ℕ). let c : Changes = (v, take (p - 1) r ++ (stretch q at 1 ++ drop (p - 1 + 1) r)) ∷ (w, x) ∷ [] in c) eq);
        first = rw (ne_eqb v w o, eq-eqb v v refl) refl;
        second = rw (ne_eqb v w o, ne_eqb w v (λ e. o (sym e))) refl;
        over_touched = λ c h. touched_left law (touches v p (customer_at r p ∷ [])) (touches w at (customer_at q at ∷ [])) c
            (touched_among law v p (customer_at r p ∷ []) c (subst (λ (xs : List ℕ). Contains xs c) sr h));
        back_touched = λ c h. touched_right law (touches v p (customer_at r p ∷ [])) (touches w at (customer_at q at ∷ [])) c
            (touched_among law w at (customer_at q at ∷ []) c (subst (λ (xs : List ℕ). Contains xs c) sq h));
        touched = λ k t e. touched_two law v p w at (stretch r p 1) (stretch q at 1) k t
            (subst (λ (xs : List ℕ). slice_get (touches v p xs ++ touches w at (stretch q at 1)) k ≡ Some t) (sym sr)
            (subst (λ (xs : List ℕ). slice_get (touches v p (customer_at r p ∷ []) ++ touches w at xs) k ≡ Some t) (sym sq) e));
      }

  -- a cross sends both tails over
  pub cross_between : (n : ℕ) (routes : List (List ℕ)) (v k w l : ℕ) → is_possible n routes (Cross v k w l) ≡ true
      → IsBetween routes (Cross v k w l) v w (k + 1) (l + 1) (drop k (route_at routes v)) (drop l (route_at routes w))
      (crossed (route_at routes v) k (route_at routes w) l) (crossed (route_at routes w) l (route_at routes v) k)
  cross_between n routes v k w l can =
      let f = (law.possible.cross n routes v k w l).0 can in
      let r = route_at routes v in
      let q = route_at routes w in
      record {
        apart = f.apart;
        vehicle = (f.vehicle.low, f.vehicle.high);
        other = (f.other.low, f.other.high);
        changes = refl;
        first = rw (eq-eqb v v refl) refl;
        second = rw (ne_eqb w v (λ e. f.apart (sym e))) refl;
        over_touched = λ c h. touched_left law (touches v (k + 1) (drop k r)) (touches w (l + 1) (drop l q)) c (touched_among law v (k + 1) (drop k r) c h);
        back_touched = λ c h. touched_right law (touches v (k + 1) (drop k r)) (touches w (l + 1) (drop l q)) c (touched_among law w (l + 1) (drop l q) c h);
        touched = λ i t e. touched_two law v (k + 1) w (l + 1) (drop k r) (drop l q) i t e;
      }

  -- who is known
  pub known_new : (s : Setting) (view : ViewState) (mv : Move) (v w x y : ℕ) (over back r q : List ℕ) → IsViewOf s view
      → is_possible s.customers view.routes mv ≡ true → IsBetween view.routes mv v w x y over back r q → AreKnown law s.customers r × AreKnown law s.customers q
  known_new s view mv v w x y over back r q sound can b =
      let routes = view.routes in
      let n = s.customers in
      let has = has_effect n routes mv can in
      let changes : Changes = (v, r) ∷ (w, q) ∷ [] in
      let apart : AreApart (length routes) changes = subst (λ (cs : Changes). AreApart (length routes) cs) b.changes (law.names.changes n routes mv (changes_by routes mv) has).apart in
      let after : IsPlan n (with_routes changes routes) = subst (λ (cs : Changes). IsPlan n (with_routes cs routes)) b.changes (law.plans.plan n routes mv (changes_by routes mv) sound.plan has) in
      (law.known.new_known n changes routes 0 (v, r) after apart refl, law.known.new_known n changes routes 1 (w, q) after apart refl)

  -- of lists that are the new routes: who is known
  pub first_known : (s : Setting) (view : ViewState) (mv : Move) (v w x y : ℕ) (over back r q r' : List ℕ) → IsViewOf s view
      → is_possible s.customers view.routes mv ≡ true → IsBetween view.routes mv v w x y over back r q → r' ≡ r → All (λ c. c ≤ s.customers) r'
  first_known s view mv v w x y over back r q r' sound can b e =
      at_most law s.customers r' (subst (λ (a : List ℕ). AreKnown law s.customers a) (sym e) (known_new s view mv v w x y over back r q sound can b).0)

  pub second_known : (s : Setting) (view : ViewState) (mv : Move) (v w x y : ℕ) (over back r q q' : List ℕ) → IsViewOf s view
      → is_possible s.customers view.routes mv ≡ true → IsBetween view.routes mv v w x y over back r q → q' ≡ q → All (λ c. c ≤ s.customers) q'
  second_known s view mv v w x y over back r q q' sound can b e =
      at_most law s.customers q' (subst (λ (a : List ℕ). AreKnown law s.customers a) (sym e) (known_new s view mv v w x y over back r q sound can b).1)

  -- where the first is not in bounds, not all fit; where it is, they do exactly where the second is
  pub first_misfits : (s : Setting) (routes : List (List ℕ)) (mv : Move) (v w x y : ℕ) (over back r q r' : List ℕ)
      → IsBetween routes mv v w x y over back r q → r' ≡ r → (FitsAll s v r' → ⊥) → IsTrue false ↔ AllFit s (changes_by routes mv)
  first_misfits s routes mv v w x y over back r q r' b er out = (
    λ never. absurd (false≢true never),
    λ all.
        let fit = subst (λ (cs : Changes). AllFit s cs) b.changes all in
        absurd (out (subst (λ (a : List ℕ). FitsAll s v a) (sym er) fit.0)),
  )

  pub fits_changed : (s : Setting) (routes : List (List ℕ)) (mv : Move) (v w x y : ℕ) (over back r q r' q' : List ℕ) (p : Bool)
      → IsBetween routes mv v w x y over back r q → r' ≡ r → q' ≡ q → FitsAll s v r' → IsTrue p ↔ FitsAll s w q' → IsTrue p ↔ AllFit s (changes_by routes mv)
  fits_changed s routes mv v w x y over back r q r' q' p b er eq first is = (
    λ t.
        subst (λ (cs : Changes). AllFit s cs) (sym b.changes)
        (subst (λ (a : List ℕ). FitsAll s v a) er first, (subst (λ (a : List ℕ). FitsAll s w a) eq (is.0 t), tt)),
    λ all.
        let fit = subst (λ (cs : Changes). AllFit s cs) b.changes all in
        is.1 (subst (λ (a : List ℕ). FitsAll s w a) (sym eq) fit.1.0),
  )
