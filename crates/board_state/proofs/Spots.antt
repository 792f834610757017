-- Where customers stand after a move and did not stand before.
use Rattle.std.proofs.Common.{◌≡◌, ◌≢◌, ℕ, zero, suc, ◌+◌, ◌-◌, ◌<◌, ◌≤◌, ◌⊎◌, inl, inr, Bool, true, false, not, cond, List, [], ◌∷◌, ◌++◌, length, map, filter, take, drop, get_or, Contains, Option, Some, None, refl, sym, ap, subst, ◌∙◌, arith, drop-cons, add-one, append_assoc}
use Rattle.std.specs.Prelude.{slice_get, flat_map}
use Rattle.std.specs.Option.{option_map, option_to_list}
use Rattle.std.proofs.lemmas.Bool.{cases_eq, cases_lt, cases_Bool, and_from, and_parts, leb-true, eqb-true, le-leb, eq-eqb, both_ways}
use Rattle.std.proofs.lemmas.List.Elements.{Contains-append_cases, Contains-append_left, Contains-append_right}
use Rattle.std.proofs.lemmas.Option.{slice_get-get_or, get_or_from_slice_get, slice_get_within, cond_some}
use Rattle.plan_core.specs.declared.touch.Touch.{Touch}
use Rattle.plan_core.specs.Commits.{named_vehicles}
use Rattle.plan_core.specs.Laws.{RoutesAreReplaced, CustomersStandByRoute}
use Rattle.plan_core.specs.Plan.{Changes, StandsAt, IsPlaced, IsPlan, IsNamed, AreApart, route_at, with_routes}
use Rattle.move_core.specs.declared.moves.Move.{Move}
use Rattle.move_core.specs.declared.moves.Move.TheVariants.{Insert, Remove, Shift, Swap, Reverse, Cross}
use Rattle.move_core.specs.Changed.{first_change}
use Rattle.move_core.specs.Laws.{MovesArePossible, PlacedIsTested, MovesNameVehicles, MovesKeepPlans, MovesKeepTheUntouched, MovesInsideRearrange, MovesBetweenCarryOver, FrontsByFirstChange}
use Rattle.move_core.specs.Moves.{effect, is_possible, is_placed, customer_at, without, changes_by}
use Rattle.move_core.specs.Rearranged.{IsRearranging}
use Rattle.move_core.specs.Touched.{touches, touched_by}
use Rattle.board_rules.specs.Delta.{AreChangesOf, spot_in}
use Rattle.board_state.specs.Deltas.{spot_change, stood_there, spots_behind, kept_by, new_spots, taken_off, places_by}
use Rattle.board_state.proofs.Numbers.{first, later, first_or_later, none_in, Unlike, distinct, unlike_joined, Once, once_unlike, once_behind, behind, within_taken, left_over, entry_of}

-- the laws of plans, moves and spots
pub record SpotLaws : Type 0 where
  pub routes : RoutesAreReplaced
  pub stands : CustomersStandByRoute
  pub possible : MovesArePossible
  pub placed : PlacedIsTested
  pub names : MovesNameVehicles
  pub keeps : MovesKeepPlans
  pub untouched : MovesKeepTheUntouched
  pub inside : MovesInsideRearrange
  pub between : MovesBetweenCarryOver
  pub fronts : FrontsByFirstChange
  pub spot : (n : ℕ) (routes : List (List ℕ)) (c v p : ℕ) → IsPlan n routes → StandsAt routes c v p → spot_in routes c ≡ Some (v, p)
  pub back : (routes : List (List ℕ)) (c v p : ℕ) → spot_in routes c ≡ Some (v, p) → StandsAt routes c v p
  pub missing : (routes : List (List ℕ)) (c : ℕ) → ¬ IsPlaced routes c → spot_in routes c ≡ None

-- ---- the spots after a place

spot_of : ℕ → ℕ → ℕ → Touch
spot_of v q c = record { vehicle = v; place = q; customer = c }

by_test : (b : Bool) (t : Touch) (ts : List Touch) → map spot_change (cond (not b) (t ∷ ts) ts) ≡ cond b (map spot_change ts) (spot_change t ∷ map spot_change ts)
by_test true t ts = refl
by_test false t ts = refl

pub spots_step : (v p : ℕ) (old : List ℕ) (c : ℕ) (cs : List ℕ)
    → spots_behind v p old (c ∷ cs) ≡ cond (stood_there old (record { vehicle = v; place = p; customer = c })) (spots_behind v (p + 1) old cs) ((c, Some (v, p)) ∷ spots_behind v (p + 1) old cs)
spots_step v p old c cs =
    by_test (stood_there old (record { vehicle = v; place = p; customer = c })) (record { vehicle = v; place = p; customer = c }) (filter (λ t. not (stood_there old t)) (touches v (p + 1) cs))

-- what is known of an entry: the customer stands on the route at its place, and did not on the old one
pub record IsNewSpot (v p : ℕ) (old tail : List ℕ) (x : ℕ × Option (ℕ × ℕ)) : Type 0 where
  pub q : ℕ
  pub k : ℕ
  pub far : q ≡ p + k
  pub here : slice_get tail k ≡ Some x.0
  pub value : x.1 ≡ Some (v, q)
  pub new : stood_there old (record { vehicle = v; place = q; customer = x.0 }) ≡ false

further : (v p : ℕ) (old : List ℕ) (c : ℕ) (cs : List ℕ) (x : ℕ × Option (ℕ × ℕ)) → IsNewSpot v (p + 1) old cs x → IsNewSpot v p old (c ∷ cs) x
further v p old c cs x r = let far = r.far in record { q = r.q; k = suc r.k; far = omega (arith, far); here = r.here; value = r.value; new = r.new }

made_by : (v p : ℕ) (old : List ℕ) (c : ℕ) (cs : List ℕ) (x : ℕ × Option (ℕ × ℕ)) → (Contains (spots_behind v (p + 1) old cs) x → IsNewSpot v (p + 1) old cs x)
    → (b : Bool) → stood_there old (record { vehicle = v; place = p; customer = c }) ≡ b
    → Contains (cond b (spots_behind v (p + 1) old cs) ((c, Some (v, p)) ∷ spots_behind v (p + 1) old cs)) x → IsNewSpot v p old (c ∷ cs) x
made_by v p old c cs x rest true is at = further v p old c cs x (rest at)
made_by v p old c cs x rest false is at = elim (first_or_later (c, Some (v, p)) x (spots_behind v (p + 1) old cs) at) [
  | inl same ↦ subst (λ (y : ℕ × Option (ℕ × ℕ)). IsNewSpot v p old (c ∷ cs) y) same (record { q = p; k = 0; far = omega arith; here = refl; value = refl; new = is })
  | inr behind ↦ further v p old c cs x (rest behind)
]

pub spot_made : (v p : ℕ) (old tail : List ℕ) (x : ℕ × Option (ℕ × ℕ)) → Contains (spots_behind v p old tail) x → IsNewSpot v p old tail x
spot_made v p old [] x at = absurd (none_in x at)
spot_made v p old (c ∷ cs) x at =
    made_by v p old c cs x (spot_made v (p + 1) old cs x) (stood_there old (record { vehicle = v; place = p; customer = c })) refl
    (subst (λ (l : List (ℕ × Option (ℕ × ℕ))). Contains l x) (spots_step v p old c cs) at)

either_way : (b : Bool) (x y : ℕ × Option (ℕ × ℕ)) (rest : List (ℕ × Option (ℕ × ℕ))) → Contains rest y → Contains (cond b rest (x ∷ rest)) y
either_way true x y rest h = h
either_way false x y rest h = later x y rest h

-- who stands on the route at a place, and did not on the old one, has an entry
pub spot_there : (v p : ℕ) (old tail : List ℕ) (k c q : ℕ) → slice_get tail k ≡ Some c → q ≡ p + k → stood_there old (record { vehicle = v; place = q; customer = c }) ≡ false
    → Contains (spots_behind v p old tail) (c, Some (v, q))
spot_there v p old [] k c q at far new = absurd cc
spot_there v p old (d ∷ ds) zero c q at far new =
    let same : c ≡ d = cc in
    let place : q ≡ p = omega (arith, far) in
    let is : stood_there old (record { vehicle = v; place = p; customer = d }) ≡ false = (λ i. stood_there old (record { vehicle = v; place = sym place i; customer = sym same i })) ∙ new in
    let entry : ◌≡◌ {A = ℕ × Option (ℕ × ℕ)} (d, Some (v, p)) (c, Some (v, q)) = λ i. (sym same i, Some (v, sym place i)) in
    let rest : List (ℕ × Option (ℕ × ℕ)) = spots_behind v (p + 1) old ds in
    subst (λ (l : List (ℕ × Option (ℕ × ℕ))). Contains l (c, Some (v, q))) (sym (spots_step v p old d ds))
    (subst (λ (b : Bool). Contains (cond b rest ((d, Some (v, p)) ∷ rest)) (c, Some (v, q))) (sym is)
    (subst (λ (y : ℕ × Option (ℕ × ℕ)). Contains ((d, Some (v, p)) ∷ rest) y) entry (first (d, Some (v, p)) rest)))
spot_there v p old (d ∷ ds) (suc k) c q at far new =
    subst (λ (l : List (ℕ × Option (ℕ × ℕ))). Contains l (c, Some (v, q))) (sym (spots_step v p old d ds))
    (either_way (stood_there old (record { vehicle = v; place = p; customer = d })) (d, Some (v, p)) (c, Some (v, q)) (spots_behind v (p + 1) old ds)
    (spot_there v (p + 1) old ds k c q at (omega (arith, far)) new))

key_made : (v p : ℕ) (old tail : List ℕ) (d : ℕ) → Contains (map (λ c. c.0) (spots_behind v p old tail)) d → Contains tail d
key_made v p old tail d at =
    let e = entry_of (spots_behind v p old tail) d at in
    let r = spot_made v p old tail e.0 e.1 in
    let here = r.here in
    let within = slice_get_within tail r.k e.0.0 here in
    (r.k, within, get_or_from_slice_get tail r.k e.0.0 d here ∙ e.2)

keys_by : (b : Bool) (x : ℕ × Option (ℕ × ℕ)) (rest : List (ℕ × Option (ℕ × ℕ))) → ((d : ℕ) → Contains (map (λ c. c.0) rest) d → x.0 ≢ d) → Unlike (map (λ c. c.0) rest)
    → Unlike (map (λ c. c.0) (cond b rest (x ∷ rest)))
keys_by true x rest apart h = h
keys_by false x rest apart h = (apart, h)

pub spots_unlike : (v p : ℕ) (old tail : List ℕ) → Unlike tail → Unlike (map (λ c. c.0) (spots_behind v p old tail))
spots_unlike v p old [] h = tt
spots_unlike v p old (c ∷ cs) h =
    subst (λ (l : List (ℕ × Option (ℕ × ℕ))). Unlike (map (λ x. x.0) l)) (sym (spots_step v p old c cs))
    (keys_by (stood_there old (record { vehicle = v; place = p; customer = c })) (c, Some (v, p)) (spots_behind v (p + 1) old cs)
    (λ d at. h.0 d (key_made v (p + 1) old cs d at)) (spots_unlike v (p + 1) old cs h.1))

-- one customer of a route further
at_index : (v index : ℕ) (old new : List ℕ) → index < length new
    → spots_behind v (index + 1) old (drop index new) ≡ cond (stood_there old (record { vehicle = v; place = index + 1; customer = get_or new index 0 }))
    (spots_behind v (index + 1 + 1) old (drop (index + 1) new)) ((get_or new index 0, Some (v, index + 1)) ∷ spots_behind v (index + 1 + 1) old (drop (index + 1) new))
at_index v index old new within =
    let tail : drop index new ≡ get_or new index 0 ∷ drop (index + 1) new = rw add-one (drop-cons new index 0 within) in
    ap (spots_behind v (index + 1) old) tail ∙ spots_step v (index + 1) old (get_or new index 0) (drop (index + 1) new)

pub spots_kept : (items : List (ℕ × Option (ℕ × ℕ))) (v index : ℕ) (old new : List ℕ) → index < length new
    → stood_there old (record { vehicle = v; place = index + 1; customer = get_or new index 0 }) ≡ true
    → items ++ spots_behind v (index + 1 + 1) old (drop (index + 1) new) ≡ items ++ spots_behind v (index + 1) old (drop index new)
spots_kept items v index old new within stood =
    let rest : List (ℕ × Option (ℕ × ℕ)) = spots_behind v (index + 1 + 1) old (drop (index + 1) new) in
    ap (λ l. items ++ l) (sym (at_index v index old new within ∙ ap (λ b. cond b rest ((get_or new index 0, Some (v, index + 1)) ∷ rest)) stood))

pub spots_pushed : (items : List (ℕ × Option (ℕ × ℕ))) (v index : ℕ) (old new : List ℕ) → index < length new
    → stood_there old (record { vehicle = v; place = index + 1; customer = get_or new index 0 }) ≡ false
    → items ++ (get_or new index 0, Some (v, index + 1)) ∷ [] ++ spots_behind v (index + 1 + 1) old (drop (index + 1) new) ≡ items ++ spots_behind v (index + 1) old (drop index new)
spots_pushed items v index old new within stood =
    let rest : List (ℕ × Option (ℕ × ℕ)) = spots_behind v (index + 1 + 1) old (drop (index + 1) new) in
    append_assoc items ((get_or new index 0, Some (v, index + 1)) ∷ []) rest
    ∙ ap (λ l. items ++ l) (sym (at_index v index old new within ∙ ap (λ b. cond b rest ((get_or new index 0, Some (v, index + 1)) ∷ rest)) stood))

-- ---- the named vehicles

pub named_or_not : (changes : Changes) (v : ℕ) → IsNamed changes v ⊎ (IsNamed changes v → ⊥)
named_or_not [] v = inr (λ h. h)
named_or_not (c ∷ cs) v = elim (cases_eq v c.0) [
  | inl here ↦ inl (inl here)
  | inr other ↦ elim (named_or_not cs v) [
    | inl later ↦ inl (inr later)
    | inr none ↦ inr (λ h. elim h [ inl here ↦ other here | inr later ↦ none later ])
  ]
]

in_fleet : (n : ℕ) (changes : Changes) (v : ℕ) → AreApart n changes → IsNamed changes v → (1 ≤ v) × (v ≤ n)
in_fleet n [] v apart named = absurd named
in_fleet n (c ∷ cs) v apart named = elim named [
  | inl here ↦ subst (λ (u : ℕ). (1 ≤ u) × (u ≤ n)) (sym here) (apart.0, apart.1)
  | inr later ↦ in_fleet n cs v apart.3 later
]

keys_joined : (xs ys : List (ℕ × Option (ℕ × ℕ))) → map (λ c. c.0) (xs ++ ys) ≡ map (λ c. c.0) xs ++ map (λ c. c.0) ys
keys_joined [] ys = refl
keys_joined (x ∷ xs) ys = ap (λ l. x.0 ∷ l) (keys_joined xs ys)

module _ (f : ℕ → List (ℕ × Option (ℕ × ℕ))) where
  gather : (cs : Changes) (x : ℕ × Option (ℕ × ℕ)) → Contains (flat_map f (named_vehicles cs)) x → (v : ℕ) × IsNamed cs v × Contains (f v) x
  gather [] x at = absurd (none_in x at)
  gather (c ∷ cs) x at = elim (Contains-append_cases (f c.0) (flat_map f (named_vehicles cs)) x at) [
    | inl here ↦ (c.0, inl refl, here)
    | inr later ↦ let r = gather cs x later in (r.0, inr r.1, r.2)
  ]

  scatter : (cs : Changes) (v : ℕ) (x : ℕ × Option (ℕ × ℕ)) → IsNamed cs v → Contains (f v) x → Contains (flat_map f (named_vehicles cs)) x
  scatter [] v x named at = absurd named
  scatter (c ∷ cs) v x named at = elim named [
    | inl here ↦ Contains-append_left (f c.0) (flat_map f (named_vehicles cs)) x (subst (λ (u : ℕ). Contains (f u) x) here at)
    | inr later ↦ Contains-append_right (f c.0) (flat_map f (named_vehicles cs)) x (scatter cs v x later at)
  ]

  all_unlike : (n : ℕ) (cs : Changes) → AreApart n cs → ((v : ℕ) → IsNamed cs v → Unlike (map (λ c. c.0) (f v)))
      → ((v w : ℕ) (x y : ℕ × Option (ℕ × ℕ)) → IsNamed cs v → IsNamed cs w → v ≢ w → Contains (f v) x → Contains (f w) y → x.0 ≢ y.0)
      → Unlike (map (λ c. c.0) (flat_map f (named_vehicles cs)))
  all_unlike n [] apart each pairs = tt
  all_unlike n (c ∷ cs) apart each pairs =
      subst (λ (l : List ℕ). Unlike l) (sym (keys_joined (f c.0) (flat_map f (named_vehicles cs))))
      (unlike_joined (map (λ x. x.0) (f c.0)) (map (λ x. x.0) (flat_map f (named_vehicles cs))) (each c.0 (inl refl))
      (all_unlike n cs apart.3 (λ v named. each v (inr named)) (λ v w x y a b. pairs v w x y (inr a) (inr b)))
      (λ d left right.
      let x = entry_of (f c.0) d left in
      let y = entry_of (flat_map f (named_vehicles cs)) d right in
      let r = gather cs y.0 y.1 in
      pairs c.0 r.0 x.0 y.0 (inl refl) (inr r.1) (λ e. apart.2 (subst (λ (u : ℕ). IsNamed cs u) (sym e) r.1)) x.1 r.2 (x.2 ∙ sym y.2)))

-- ---- who is taken off the plan

-- what is known of who is taken off: the customer stood somewhere, and stands nowhere afterwards
pub record IsTakenOff (routes others : List (List ℕ)) (x : ℕ × Option (ℕ × ℕ)) : Type 0 where
  pub value : x.1 ≡ None
  pub was : IsPlaced routes x.0
  pub gone : ¬ IsPlaced others x.0

abbrev pub off_entries : Option ℕ → List (ℕ × Option (ℕ × ℕ))
off_entries o = option_to_list (option_map {U = ℕ × Option (ℕ × ℕ)} (λ c. (c, None)) o)

module _ (law : SpotLaws) where
  -- the places of one customer in a plan
  pub one_place : (n : ℕ) (routes : List (List ℕ)) (v : ℕ) → IsPlan n routes → 1 ≤ v → v ≤ length routes → Once (route_at routes v)
  one_place n routes v plan low high i j c at also =
      let e = (plan.alone c v (i + 1) v (j + 1) ((law.stands.there routes c v i low high).0 at) ((law.stands.there routes c v j low high).0 also)).1 in omega (arith, e)

  removed : (n : ℕ) (routes : List (List ℕ)) (v p : ℕ) → IsPlan n routes → is_possible n routes (Remove v p) ≡ true
      → IsTakenOff routes (with_routes ((v, without (route_at routes v) p 1) ∷ []) routes) (customer_at (route_at routes v) p, None)
  removed n routes v p plan possible =
      let can = (law.possible.remove n routes v p).0 possible in
      let c : ℕ = customer_at (route_at routes v) p in
      let low = can.place.low in
      let high = can.place.high in
      let within : p - 1 < length (route_at routes v) = omega (arith, low, high) in
      let stood : StandsAt routes c v p = record { low = can.vehicle.low; high = can.vehicle.high; place = low; found = slice_get-get_or (route_at routes v) (p - 1) 0 within } in
      let apart : AreApart (length routes) ((v, without (route_at routes v) p 1) ∷ []) = (can.vehicle.low, can.vehicle.high, (λ h. h), tt) in
      let others : List (List ℕ) = with_routes ((v, without (route_at routes v) p 1) ∷ []) routes in
      let count : length others ≡ length routes = law.routes.count ((v, without (route_at routes v) p 1) ∷ []) routes in
      record {
        value = refl;
        was = (v, (p, stood));
        gone = λ there.
            let w = there.0 in
            let q = there.1.0 in
            let at = there.1.1 in
            let above = at.high in
            let from = at.place in
            elim (cases_eq w v) [
              | inl same ↦
                  let here : slice_get (without (route_at routes v) p 1) (q - 1) ≡ Some c =
                  ap (λ (r : List ℕ). slice_get r (q - 1)) (sym (law.routes.first v (without (route_at routes v) p 1) [] routes apart))
                  ∙ (ap (λ u. slice_get (route_at others u) (q - 1)) (sym same) ∙ at.found) in
                  let one_more : p - 1 + 1 ≡ suc (p - 1) = omega arith in
                  let r = left_over (p - 1) (q - 1) c (route_at routes v) (subst (λ (m : ℕ). slice_get (take (p - 1) (route_at routes v) ++ drop m (route_at routes v)) (q - 1) ≡ Some c) one_more here) in
                  let again : StandsAt routes c v (r.0 + 1) = (law.stands.there routes c v r.0 can.vehicle.low can.vehicle.high).0 r.2 in
                  let e = (plan.alone c v (r.0 + 1) v p again stood).1 in
                  r.1 (omega (arith, e))
              | inr other ↦
                  let kept = law.routes.others ((v, without (route_at routes v) p 1) ∷ []) routes w apart at.low (λ named. elim named [ inl here ↦ other here | inr none ↦ none ]) in
                  let again : StandsAt routes c w q = record { low = at.low; high = omega (arith, above, count); place = from; found = ap (λ (r : List ℕ). slice_get r (q - 1)) (sym kept) ∙ at.found } in
                  other (plan.alone c w q v p again stood).0
            ];
      }

  taken_facts : (n : ℕ) (routes : List (List ℕ)) (mv : Move) (changes : Changes) (x : ℕ × Option (ℕ × ℕ)) → IsPlan n routes → effect n routes mv ≡ Some changes
      → Contains (off_entries (taken_off routes mv)) x → IsTakenOff routes (with_routes changes routes) x
  taken_facts n routes (Remove v p) changes x plan made at =
      let both = cond_some (is_possible n routes (Remove v p)) (changes_by routes (Remove v p)) changes made in
      subst (λ (cs : Changes). IsTakenOff routes (with_routes cs routes) x) both.1
      (elim (first_or_later (customer_at (route_at routes v) p, None) x [] at) [
        | inl same ↦ subst (λ (y : ℕ × Option (ℕ × ℕ)). IsTakenOff routes (with_routes (changes_by routes (Remove v p)) routes) y) same (removed n routes v p plan both.0)
        | inr none ↦ absurd (none_in x none)
      ])
  taken_facts n routes (Insert c v p) changes x plan made at = absurd (none_in x at)
  taken_facts n routes (Shift v p m to at_place) changes x plan made at = absurd (none_in x at)
  taken_facts n routes (Swap v p w q) changes x plan made at = absurd (none_in x at)
  taken_facts n routes (Reverse v i j) changes x plan made at = absurd (none_in x at)
  taken_facts n routes (Cross v k w l) changes x plan made at = absurd (none_in x at)

  -- ---- who stays on the plan

  still_named : (n : ℕ) (routes : List (List ℕ)) (changes : Changes) (c v p : ℕ) → AreApart (length routes) changes → StandsAt routes c v p
      → (IsNamed changes v → IsPlaced (with_routes changes routes) c) → IsPlaced (with_routes changes routes) c
  still_named n routes changes c v p apart at named = elim (named_or_not changes v) [
    | inl there ↦ named there
    | inr unnamed ↦
        let count = law.routes.count changes routes in
        let high = at.high in (
          v,
          (
            p,
            record {
              low = at.low;
              high = omega (arith, high, count);
              place = at.place;
              found = ap (λ (r : List ℕ). slice_get r (p - 1)) (law.routes.others changes routes v apart at.low unnamed) ∙ at.found;
            },
          ),
        )
  ]

  on_new_route : (routes : List (List ℕ)) (changes : Changes) (k c v : ℕ) (r : List ℕ) → AreApart (length routes) changes → slice_get changes k ≡ Some (v, r) → 1 ≤ v → v ≤ length routes
      → Contains r c → IsPlaced (with_routes changes routes) c
  on_new_route routes changes k c v r apart at low high there =
      let count = law.routes.count changes routes in
      let on = law.stands.somewhere (with_routes changes routes) c v low (omega (arith, high, count))
      (subst (λ (l : List ℕ). Contains l c) (sym (law.routes.named changes routes k (v, r) apart at)) there) in
      (v, (on.0, on.1))

  rearranged : (n : ℕ) (routes : List (List ℕ)) (mv : Move) (changes : Changes) (c v p k : ℕ) (t : Touch) → IsRearranging mv → effect n routes mv ≡ Some changes
      → AreApart (length routes) changes → StandsAt routes c v p → slice_get (touched_by routes mv) k ≡ Some t → t.customer ≡ c → IsPlaced (with_routes changes routes) c
  rearranged n routes mv [] c v p k t kind made apart at touch same = still_named n routes [] c v p apart at (λ named. absurd named)
  rearranged n routes mv (x ∷ []) c v p k t kind made apart at touch same =
      still_named n routes (x ∷ []) c v p apart at (λ named. elim named [
        | inl here ↦ on_new_route routes (x ∷ []) 0 c x.0 x.1 apart refl apart.0 apart.1
            (((law.inside n routes mv x.0 x.1 kind made).same c).0 (subst (λ (u : ℕ). Contains (route_at routes u) c) here (law.stands.among routes c v p at)))
        | inr none ↦ absurd none
      ])
  rearranged n routes mv (x ∷ y ∷ []) c v p k t kind made apart at touch same =
      elim (law.between n routes mv x.0 y.0 x.1 y.1 made k t touch) [
        | inl first ↦ on_new_route routes (x ∷ y ∷ []) 1 c y.0 y.1 apart refl apart.3.0 apart.3.1 (subst (λ (d : ℕ). Contains y.1 d) same first.2)
        | inr second ↦ on_new_route routes (x ∷ y ∷ []) 0 c x.0 x.1 apart refl apart.0 apart.1 (subst (λ (d : ℕ). Contains x.1 d) same second.2)
      ]
  rearranged n routes mv (x ∷ y ∷ z ∷ zs) c v p k t kind made apart at touch same =
      let few = (law.names.changes n routes mv (x ∷ y ∷ z ∷ zs) made).few in absurd (omega (arith, few))

  only_touch : (t u : Touch) (k : ℕ) → slice_get (t ∷ []) k ≡ Some u → t ≡ u
  only_touch t u zero at = cc
  only_touch t u (suc k) at = absurd cc

  after_touch : (n : ℕ) (routes : List (List ℕ)) (mv : Move) (changes : Changes) (c v p k : ℕ) (t : Touch) → effect n routes mv ≡ Some changes → AreApart (length routes) changes
      → StandsAt routes c v p → slice_get (touched_by routes mv) k ≡ Some t → t.customer ≡ c → IsPlaced (with_routes changes routes) c ⊎ Contains (off_entries (taken_off routes mv)) (c, None)
  after_touch n routes (Insert d u q) changes c v p k t made apart at touch same =
      let both = cond_some (is_possible n routes (Insert d u q)) (changes_by routes (Insert d u q)) changes made in
      let free = ((law.possible.insert n routes d u q).0 both.0).customer.free in
      let is : d ≡ c = ap (λ (x : Touch). x.customer) (only_touch _ t k touch) ∙ same in
      let there = (law.placed routes d).1 (subst (λ (x : ℕ). IsPlaced routes x) (sym is) (v, (p, at))) in
      absurd (both_ways (is_placed routes d) free there)
  after_touch n routes (Remove u q) changes c v p k t made apart at touch same =
      let is : customer_at (route_at routes u) q ≡ c = ap (λ (x : Touch). x.customer) (only_touch _ t k touch) ∙ same in
      inr (subst (λ (d : ℕ). Contains (off_entries (Some (customer_at (route_at routes u) q))) (d, None)) is (first (customer_at (route_at routes u) q, None) []))
  after_touch n routes (Shift u q m to place) changes c v p k t made apart at touch same = inl (rearranged n routes (Shift u q m to place) changes c v p k t tt made apart at touch same)
  after_touch n routes (Swap u q w r) changes c v p k t made apart at touch same = inl (rearranged n routes (Swap u q w r) changes c v p k t tt made apart at touch same)
  after_touch n routes (Reverse u i j) changes c v p k t made apart at touch same = inl (rearranged n routes (Reverse u i j) changes c v p k t tt made apart at touch same)
  after_touch n routes (Cross u i w j) changes c v p k t made apart at touch same = inl (rearranged n routes (Cross u i w j) changes c v p k t tt made apart at touch same)

  -- ---- all spots

  module _ (n : ℕ) (routes : List (List ℕ)) (mv : Move) (changes : Changes) (plan : IsPlan n routes) (made : effect n routes mv ≡ Some changes) where
    next : IsPlan n (with_routes changes routes)
    next = law.keeps.plan n routes mv changes plan made

    apart : AreApart (length routes) changes
    apart = (law.names.changes n routes mv changes made).apart

    count : length (with_routes changes routes) ≡ length routes
    count = law.routes.count changes routes

    stays_or_off : (c v p : ℕ) → StandsAt routes c v p → IsPlaced (with_routes changes routes) c ⊎ Contains (off_entries (taken_off routes mv)) (c, None)
    stays_or_off c v p at = elim (law.untouched.stay n routes mv changes c v p made at) [
      | inl there ↦ inl (v, there)
      | inr touched ↦ after_touch n routes mv changes c v p touched.0 touched.1.0 made apart at touched.1.1 touched.1.2
    ]

    -- a place before the first change is the same before and after
    same_place : (v p : ℕ) → 1 ≤ v → 1 ≤ p → (IsNamed changes v → p < first_change mv v) → slice_get (route_at (with_routes changes routes) v) (p - 1) ≡ slice_get (route_at routes v) (p - 1)
    same_place v p low from early = elim (named_or_not changes v) [
      | inr unnamed ↦ ap (λ (r : List ℕ). slice_get r (p - 1)) (law.fronts.others n routes mv changes v made low unnamed)
      | inl named ↦
          let change = law.fronts.place n routes mv changes v plan made named in
          let before = early named in
          let within : p - 1 < first_change mv v - 1 = omega (arith, before, from) in
          sym (within_taken (first_change mv v - 1) (p - 1) (route_at (with_routes changes routes) v) within)
          ∙ (ap (λ (r : List ℕ). slice_get r (p - 1)) change.same
          ∙ within_taken (first_change mv v - 1) (p - 1) (route_at routes v) within)
    ]

    was_there : (c v p : ℕ) → (IsNamed changes v → p < first_change mv v) → StandsAt (with_routes changes routes) c v p → StandsAt routes c v p
    was_there c v p early at =
        let high = at.high in
        let sized = count in
        record { low = at.low; high = omega (arith, high, sized); place = at.place; found = sym (same_place v p at.low at.place early) ∙ at.found }

    stood_true : (c v p : ℕ) → StandsAt routes c v p → stood_there (route_at routes v) (record { vehicle = v; place = p; customer = c }) ≡ true
    stood_true c v p at =
        let from = at.place in
        let within = slice_get_within (route_at routes v) (p - 1) c at.found in
        and_from _ _ (le-leb p (length (route_at routes v)) (omega (arith, from, within))) (eq-eqb _ c (get_or_from_slice_get (route_at routes v) (p - 1) c 0 at.found))

    -- what is known of an entry on a named vehicle
    entry_stands : (v : ℕ) (x : ℕ × Option (ℕ × ℕ)) → IsNamed changes v → Contains (new_spots routes (with_routes changes routes) mv v) x
        → (q : ℕ) × (x.1 ≡ Some (v, q)) × StandsAt (with_routes changes routes) x.0 v q × (¬ StandsAt routes x.0 v q)
    entry_stands v x named at =
        let r = spot_made v (kept_by mv v + 1) (route_at routes v) (drop (kept_by mv v) (route_at (with_routes changes routes) v)) x at in
        let range = in_fleet (length routes) changes v apart named in
        let low = range.0 in
        let high = range.1 in
        let sized = count in
        let far = r.far in
        let index : ℕ = kept_by mv v + r.k in
        let there : slice_get (route_at (with_routes changes routes) v) index ≡ Some x.0 =
        sym (behind (kept_by mv v) r.k index (route_at (with_routes changes routes) v) refl) ∙ r.here in
        let place : index + 1 ≡ r.q = omega (arith, far) in (
          r.q,
          r.value,
          subst (λ (q : ℕ). StandsAt (with_routes changes routes) x.0 v q) place ((law.stands.there (with_routes changes routes) x.0 v index low (omega (arith, high, sized))).0 there),
          (λ old. both_ways _ r.new (stood_true x.0 v r.q old)),
        )

    abbrev all_places : List (ℕ × Option (ℕ × ℕ))
    all_places = flat_map (new_spots routes (with_routes changes routes) mv) (named_vehicles changes) ++ off_entries (taken_off routes mv)

    keys_apart : Unlike (map (λ c. c.0) (flat_map (new_spots routes (with_routes changes routes) mv) (named_vehicles changes)))
    keys_apart =
        all_unlike (new_spots routes (with_routes changes routes) mv) (length routes) changes apart
        (λ v named.
        let range = in_fleet (length routes) changes v apart named in
        let high = range.1 in
        let sized = count in
        spots_unlike v (kept_by mv v + 1) (route_at routes v) (drop (kept_by mv v) (route_at (with_routes changes routes) v))
        (once_unlike _ (once_behind (kept_by mv v) (route_at (with_routes changes routes) v)
        (one_place n (with_routes changes routes) v next range.0 (omega (arith, high, sized))))))
        (λ v w x y a b differ in_v in_w same.
        let l = entry_stands v x a in_v in
        let r = entry_stands w y b in_w in
        differ (next.alone x.0 v l.0 w r.0 l.2 (subst (λ (c : ℕ). StandsAt (with_routes changes routes) c w r.0) (sym same) r.2)).0)

    off_unlike : (o : Option ℕ) → Unlike (map (λ c. c.0) (off_entries o))
    off_unlike None = tt
    off_unlike (Some c) = ((λ d at. absurd (none_in d at)), tt)

    once_all : Unlike (map (λ c. c.0) all_places)
    once_all =
        subst (λ (l : List ℕ). Unlike l) (sym (keys_joined (flat_map (new_spots routes (with_routes changes routes) mv) (named_vehicles changes)) (off_entries (taken_off routes mv))))
        (unlike_joined _ _ keys_apart (off_unlike (taken_off routes mv))
        (λ d left right.
        let x = entry_of _ d left in
        let y = entry_of _ d right in
        let g = gather (new_spots routes (with_routes changes routes) mv) changes x.0 x.1 in
        let l = entry_stands g.0 x.0 g.1 g.2 in
        let off = taken_facts n routes mv changes y.0 plan made y.1 in
        off.gone (g.0, (l.0, subst (λ (c : ℕ). StandsAt (with_routes changes routes) c g.0 l.0) (x.2 ∙ sym y.2) l.2))))

    abbrev Made : ℕ → Option (ℕ × ℕ) → Type 0
    Made k value = (1 ≤ k) × (k ≤ n) × (value ≡ spot_in (with_routes changes routes) k) × (spot_in (with_routes changes routes) k ≢ spot_in routes k)

    made_all : (k : ℕ) (value : Option (ℕ × ℕ)) → Contains all_places (k, value) → Made k value
    made_all k value at = elim (Contains-append_cases (flat_map (new_spots routes (with_routes changes routes) mv) (named_vehicles changes)) (off_entries (taken_off routes mv)) (k, value) at) [
      | inl left ↦
          let g = gather (new_spots routes (with_routes changes routes) mv) changes (k, value) left in
          let r = entry_stands g.0 (k, value) g.1 g.2 in
          let is = law.spot n (with_routes changes routes) k g.0 r.0 next r.2 in
          let known = next.known k g.0 r.0 r.2 in
          (known.0, known.1, r.1 ∙ sym is, (λ e. r.3 (law.back routes k g.0 r.0 (sym e ∙ is))))
      | inr right ↦
          let off = taken_facts n routes mv changes (k, value) plan made right in
          let is = law.missing (with_routes changes routes) k off.gone in
          let was = off.was in
          let stood = law.spot n routes k was.0 was.1.0 plan was.1.1 in
          let known = plan.known k was.0 was.1.0 was.1.1 in
          (known.0, known.1, off.value ∙ sym is, (λ e. let bad = sym is ∙ (e ∙ stood) in absurd cc))
    ]

    all_made : (k : ℕ) → spot_in (with_routes changes routes) k ≢ spot_in routes k → Contains all_places (k, spot_in (with_routes changes routes) k)
    all_made k differs = by_new (spot_in (with_routes changes routes) k) refl
      where
        by_old : (old : Option (ℕ × ℕ)) → spot_in routes k ≡ old → spot_in (with_routes changes routes) k ≡ None → Contains (off_entries (taken_off routes mv)) (k, None)
        by_old None old is = absurd (differs (is ∙ sym old))
        by_old (Some spot) old is = elim (stays_or_off k spot.0 spot.1 (law.back routes k spot.0 spot.1 old)) [
          | inl there ↦ let found = sym is ∙ law.spot n (with_routes changes routes) k there.0 there.1.0 next there.1.1 in absurd cc
          | inr off ↦ off
        ]

        not_stood : (v q : ℕ) → spot_in (with_routes changes routes) k ≡ Some (v, q) → ¬ StandsAt routes k v q
        not_stood v q is old = differs (is ∙ sym (law.spot n routes k v q plan old))

        not_there : (v q : ℕ) → 1 ≤ v → v ≤ length routes → 1 ≤ q → (¬ StandsAt routes k v q) → stood_there (route_at routes v) (record { vehicle = v; place = q; customer = k }) ≡ false
        not_there v q low high from none = elim (cases_Bool (stood_there (route_at routes v) (record { vehicle = v; place = q; customer = k }))) [
          | inr unstood ↦ unstood
          | inl stood ↦
              let parts = and_parts _ _ stood in
              let upper = leb-true q (length (route_at routes v)) parts.0 in
              let within : q - 1 < length (route_at routes v) = omega (arith, upper, from) in
              absurd (none (record {
                low = low;
                high = high;
                place = from;
                found = slice_get-get_or (route_at routes v) (q - 1) 0 within ∙ ap Some (eqb-true _ k parts.1);
              }))
        ]

        by_new : (new : Option (ℕ × ℕ)) → spot_in (with_routes changes routes) k ≡ new
            → Contains (flat_map (new_spots routes (with_routes changes routes) mv) (named_vehicles changes) ++ off_entries (taken_off routes mv)) (k, spot_in (with_routes changes routes) k)
        by_new None is =
            Contains-append_right (flat_map (new_spots routes (with_routes changes routes) mv) (named_vehicles changes)) (off_entries (taken_off routes mv)) (k, spot_in (with_routes changes routes) k)
            (subst (λ (o : Option (ℕ × ℕ)). Contains (off_entries (taken_off routes mv)) (k, o)) (sym is) (by_old (spot_in routes k) refl is))
        by_new (Some spot) is =
            let v : ℕ = spot.0 in
            let q : ℕ = spot.1 in
            let at = law.back (with_routes changes routes) k v q is in
            let high = at.high in
            let sized = count in
            let from = at.place in
            let within : v ≤ length routes = omega (arith, high, sized) in
            let none = not_stood v q is in
            elim (named_or_not changes v) [
              | inr unnamed ↦ absurd (none (was_there k v q (λ named. absurd (unnamed named)) at))
              | inl named ↦ elim (cases_lt q (first_change mv v)) [
                | inl early ↦ absurd (none (was_there k v q (λ _. early) at))
                | inr late ↦
                    let low = (law.fronts.place n routes mv changes v plan made named).low in
                    let index : ℕ = q - 1 - kept_by mv v in
                    let there : slice_get (drop (kept_by mv v) (route_at (with_routes changes routes) v)) index ≡ Some k =
                    behind (kept_by mv v) index (q - 1) (route_at (with_routes changes routes) v) (omega (arith, late, low, from)) ∙ at.found in
                    let entry = spot_there v (kept_by mv v + 1) (route_at routes v) (drop (kept_by mv v) (route_at (with_routes changes routes) v)) index k q there
                    (omega (arith, late, low, from)) (not_there v q at.low within from none) in
                    Contains-append_left (flat_map (new_spots routes (with_routes changes routes) mv) (named_vehicles changes)) (off_entries (taken_off routes mv)) (k, spot_in (with_routes changes routes) k)
                    (subst (λ (o : Option (ℕ × ℕ)). Contains (flat_map (new_spots routes (with_routes changes routes) mv) (named_vehicles changes)) (k, o)) (sym is)
                    (scatter (new_spots routes (with_routes changes routes) mv) changes v (k, Some (v, q)) named entry))
              ]
            ]

    pub places_differ : AreChangesOf n (spot_in routes) (spot_in (with_routes changes routes)) (places_by routes (with_routes changes routes) mv)
    places_differ =
        subst (λ (vs : List ℕ). AreChangesOf n (spot_in routes) (spot_in (with_routes changes routes)) (flat_map (new_spots routes (with_routes changes routes) mv) vs ++ off_entries (taken_off routes mv)))
        (law.names.named n routes mv changes made)
        (record { once = distinct _ once_all; made = made_all; all = λ k low high differs. all_made k differs })
