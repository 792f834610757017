use Rattle.std.proofs.Common.{◌≡◌, ℕ, zero, suc, ◌+◌, ◌-◌, ◌≤◌, ◌⊎◌, ◌∙◌, sym, ap, subst, refl, arith, inl, inr, List, [], ◌∷◌, ◌++◌, length, take, drop, slice_get, slice_set, Some, true, Contains}
use Rattle.std.proofs.lemmas.List.{take-append-drop, drop-drop, get_or-set_same, length-set}
use Rattle.std.proofs.lemmas.List.Elements.{Contains-append_left, Contains-append_right, Contains-get_or}
use Rattle.plan_core.specs.declared.touch.Touch.{Touch}
use Rattle.plan_core.specs.Plan.{Changes, route_at}
use Rattle.move_core.specs.declared.moves.Move.{Move}
use Rattle.move_core.specs.declared.moves.Move.TheVariants.{Insert, Remove, Shift, Swap, Reverse, Cross}
use Rattle.move_core.specs.Moves.{is_possible, changes_by, effect, stretch, with_customer, customer_at, crossed}
use Rattle.move_core.specs.Touched.{touches, touched_by}
use Rattle.move_core.proofs.Facts.{can_swap}
use Rattle.move_core.proofs.Effects.{by_vehicles, possible_from_effect}

-- who is touched on a vehicle is one of those listed
record IsTouchOn (v : ℕ) (cs : List ℕ) (t : Touch) : Type 0 where
  on : t.vehicle ≡ v
  among : Contains cs t.customer

touch_in : (v p : ℕ) (cs : List ℕ) (k : ℕ) (t : Touch) → slice_get (touches v p cs) k ≡ Some t → IsTouchOn v cs t
touch_in v p [] k t e = absurd cc
touch_in v p (c ∷ cs) zero t e =
    let same : (record { vehicle = v; place = p; customer = c }) ≡ t = cc in
    subst (λ (u : Touch). IsTouchOn v (c ∷ cs) u) same (record { on = refl; among = (0, omega arith, refl) })
touch_in v p (c ∷ cs) (suc k) t e =
    let rest = touch_in v (p + 1) cs k t e in record { on = rest.on; among = Contains-append_right (c ∷ []) cs t.customer rest.among }

touch_in_two : (v p w q : ℕ) (cs ds : List ℕ) (k : ℕ) (t : Touch) → slice_get (touches v p cs ++ touches w q ds) k ≡ Some t → IsTouchOn v cs t ⊎ IsTouchOn w ds t
touch_in_two v p w q [] ds k t e = inr (touch_in w q ds k t e)
touch_in_two v p w q (c ∷ cs) ds zero t e =
    let same : (record { vehicle = v; place = p; customer = c }) ≡ t = cc in
    inl (subst (λ (u : Touch). IsTouchOn v (c ∷ cs) u) same (record { on = refl; among = (0, omega arith, refl) }))
touch_in_two v p w q (c ∷ cs) ds (suc k) t e = more (touch_in_two v (p + 1) w q cs ds k t e)
  where
    more : IsTouchOn v cs t ⊎ IsTouchOn w ds t → IsTouchOn v (c ∷ cs) t ⊎ IsTouchOn w ds t
    more (inl a) = inl (record { on = a.on; among = Contains-append_right (c ∷ []) cs t.customer a.among })
    more (inr a) = inr a

in_middle : (a b c : List ℕ) (x : ℕ) → Contains b x → Contains (a ++ (b ++ c)) x
in_middle a b c x h = Contains-append_right a (b ++ c) x (Contains-append_left b c x h)

in_stretch : (r : List ℕ) (i m c : ℕ) → Contains (take m (drop i r)) c → Contains r c
in_stretch r i m c h =
    let whole : take i r ++ (take m (drop i r) ++ drop (i + m) r) ≡ r =
    ap (λ (ys : List ℕ). take i r ++ (take m (drop i r) ++ ys)) (sym (drop-drop m i r))
    ∙ ap (λ (ys : List ℕ). take i r ++ ys) (take-append-drop m (drop i r)) ∙ take-append-drop i r in
    subst (λ (xs : List ℕ). Contains xs c) whole (in_middle (take i r) (take m (drop i r)) (drop (i + m) r) c h)

in_tail : (r : List ℕ) (k c : ℕ) → Contains (drop k r) c → Contains r c
in_tail r k c h = subst (λ (xs : List ℕ). Contains xs c) (take-append-drop k r) (Contains-append_right (take k r) (drop k r) c h)

-- a customer that is written over another stands there
written : (r : List ℕ) (p c d : ℕ) → 1 ≤ p → p ≤ length r → Contains (c ∷ []) d → Contains (with_customer r p c) d
written r p c d low high (zero, h, e) =
    let long : length (slice_set r (p - 1) c) ≡ length r = length-set r (p - 1) c in
    (p - 1, omega arith, get_or-set_same r (p - 1) c d (omega arith) ∙ e)
written r p c d low high (suc k, h, e) = absurd (omega arith)

standing : (r : List ℕ) (p d : ℕ) → 1 ≤ p → p ≤ length r → Contains (customer_at r p ∷ []) d → Contains r d
standing r p d low high (zero, h, e) = subst (λ (x : ℕ). Contains r x) e (Contains-get_or r (p - 1) 0 (omega arith))
standing r p d low high (suc k, h, e) = absurd (omega arith)

-- a touched customer goes over from one vehicle to another
abbrev IsCarried : List (List ℕ) → ℕ → ℕ → List ℕ → List ℕ → Touch → Type 0
IsCarried routes v w r q t =
    ((t.vehicle ≡ v) × Contains (route_at routes v) t.customer × Contains q t.customer)
    ⊎ ((t.vehicle ≡ w) × Contains (route_at routes w) t.customer × Contains r t.customer)

abbrev CarriedBy : List (List ℕ) → Touch → Changes → Type 0
CarriedBy routes t [] = Unit {0}
CarriedBy routes t (c ∷ []) = Unit {0}
CarriedBy routes t (c ∷ (d ∷ [])) = IsCarried routes c.0 d.0 c.1 d.1 t
CarriedBy routes t (c ∷ (d ∷ (e ∷ es))) = Unit {0}

each_carried : (n : ℕ) (routes : List (List ℕ)) (mv : Move) (k : ℕ) (t : Touch) → is_possible n routes mv ≡ true → slice_get (touched_by routes mv) k ≡ Some t
    → CarriedBy routes t (changes_by routes mv)
each_carried n routes (Insert c v p) k t can e = tt
each_carried n routes (Remove v p) k t can e = tt
each_carried n routes (Shift v p m to at) k t can e =
    let r = route_at routes v in
    let q = route_at routes to in
    let a = touch_in v p (stretch r p m) k t e in
    by_vehicles (CarriedBy routes t) v to _ _ (λ same. tt)
    (λ o. inl (a.on, in_stretch r (p - 1) m t.customer a.among, in_middle (take (at - 1) q) (stretch r p m) (drop (at - 1) q) t.customer a.among))
each_carried n routes (Swap v p w q) k t can e =
    by_vehicles (CarriedBy routes t) v w _ _ (λ same. tt) (λ o. split (touch_in_two v p w q (customer_at (route_at routes v) p ∷ []) (customer_at (route_at routes w) q ∷ []) k t e))
  where
    split : IsTouchOn v (customer_at (route_at routes v) p ∷ []) t ⊎ IsTouchOn w (customer_at (route_at routes w) q ∷ []) t
        → IsCarried routes v w (with_customer (route_at routes v) p (customer_at (route_at routes w) q)) (with_customer (route_at routes w) q (customer_at (route_at routes v) p)) t
    split (inl a) =
        let f = can_swap n routes v p w q can in
        inl (
          a.on,
          standing (route_at routes v) p t.customer f.place.low f.place.high a.among,
          written (route_at routes w) q (customer_at (route_at routes v) p) t.customer f.at.low f.at.high a.among,
        )
    split (inr a) =
        let f = can_swap n routes v p w q can in
        inr (
          a.on,
          standing (route_at routes w) q t.customer f.at.low f.at.high a.among,
          written (route_at routes v) p (customer_at (route_at routes w) q) t.customer f.place.low f.place.high a.among,
        )
each_carried n routes (Reverse v i j) k t can e = tt
each_carried n routes (Cross v k w l) i t can e = split (touch_in_two v (k + 1) w (l + 1) (drop k (route_at routes v)) (drop l (route_at routes w)) i t e)
  where
    split : IsTouchOn v (drop k (route_at routes v)) t ⊎ IsTouchOn w (drop l (route_at routes w)) t
        → IsCarried routes v w (crossed (route_at routes v) k (route_at routes w) l) (crossed (route_at routes w) l (route_at routes v) k) t
    split (inl a) = inl (a.on, in_tail (route_at routes v) k t.customer a.among, Contains-append_right (take l (route_at routes w)) (drop k (route_at routes v)) t.customer a.among)
    split (inr a) = inr (a.on, in_tail (route_at routes w) l t.customer a.among, Contains-append_right (take k (route_at routes v)) (drop l (route_at routes w)) t.customer a.among)

pub moves_carry : (n : ℕ) (routes : List (List ℕ)) (mv : Move) (v w : ℕ) (r q : List ℕ) → effect n routes mv ≡ Some ((v, r) ∷ (w, q) ∷ [])
    → (k : ℕ) (t : Touch) → slice_get (touched_by routes mv) k ≡ Some t
    → ((t.vehicle ≡ v) × Contains (route_at routes v) t.customer × Contains q t.customer)
    ⊎ ((t.vehicle ≡ w) × Contains (route_at routes w) t.customer × Contains r t.customer)
moves_carry n routes mv v w r q e k t found =
    let p = possible_from_effect n routes mv ((v, r) ∷ (w, q) ∷ []) e in
    subst (CarriedBy routes t) p.1 (each_carried n routes mv k t p.0 found)
