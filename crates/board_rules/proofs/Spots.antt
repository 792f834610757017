-- Where a customer stands in a plan, by its place and by the function that finds it.
use Rattle.std.proofs.Common.{refl, ◌≡◌, ℕ, ◌+◌, ◌-◌, ◌<◌, Bool, true, false, List, [], length, Some, None, ap, ◌∙◌, arith, Option, subst}
use Rattle.std.specs.Prelude.{slice_index_or, slice_get, position, cond, nat_lt, ◌==◌}
use Rattle.std.specs.List.{position_or_len}
use Rattle.std.specs.Option.{option_map}
use Rattle.std.proofs.lemmas.Bool.{lt-ltb, le-ltb, eqb-true, eq-eqb, false_from_ne_true}
use Rattle.std.proofs.lemmas.List.Quantifiers.{position-Some}
use Rattle.std.proofs.lemmas.List.Sums.{position_or_len_is}
use Rattle.std.proofs.lemmas.Option.{slice_get-get_or, get_or_from_slice_get, slice_get_within}
use Rattle.plan_core.specs.Among.{is_among}
use Rattle.plan_core.specs.Plan.{StandsAt, IsPlaced, IsPlan, route_at}
use Rattle.plan_core.specs.Laws.{CustomersStandByRoute, AmongIsTested}
use Rattle.board_rules.specs.Pinning.{vehicle_of}
use Rattle.board_rules.specs.Delta.{spot_on, spot_in}
use Rattle.board_rules.proofs.Standing.{on_from_test, on_its_vehicle}

pair_same : (a b : ℕ × ℕ) → Some a ≡ Some b → a ≡ b
pair_same a b h = cc

position_is : {X : Type 0} (p : X → Bool) (xs : List X) (i : ℕ) (d : X) → i < length xs → p (slice_index_or xs i d) ≡ true
    → ((k : ℕ) → k < i → p (slice_index_or xs k d) ≡ false) → position p xs ≡ Some i
position_is p xs i d below here before =
    let at : position_or_len p xs ≡ i = position_or_len_is p xs i d (omega (arith, below)) before (λ _. here) in
    ap (λ n. cond (nat_lt n (length xs)) (Some n) None) at ∙ ap (λ b. cond b (Some i) None) (lt-ltb i (length xs) below)

position_none : {X : Type 0} (p : X → Bool) (xs : List X) (d : X) → ((k : ℕ) → k < length xs → p (slice_index_or xs k d) ≡ false) → position p xs ≡ None
position_none p xs d none =
    let at : position_or_len p xs ≡ length xs = position_or_len_is p xs (length xs) d (omega arith) none (λ below. absurd (omega (arith, below))) in
    ap (λ n. cond (nat_lt n (length xs)) (Some n) None) at ∙ ap (λ b. cond b (Some (length xs)) None) (le-ltb (length xs) (length xs) (omega arith))

module _ (stands : CustomersStandByRoute) (among : AmongIsTested) where
  among_at : (routes : List (List ℕ)) (c v p : ℕ) → StandsAt routes c v p → is_among c (route_at routes v) ≡ true
  among_at routes c v p at = (among c (route_at routes v)).1 (stands.among routes c v p at)

  not_among : (routes : List (List ℕ)) (c k : ℕ) → k < length routes → (((p : ℕ) × StandsAt routes c (k + 1) p) → ⊥) → is_among c (slice_index_or routes k []) ≡ false
  not_among routes c k below nowhere =
      let same : (k + 1) - 1 ≡ k = omega arith in
      false_from_ne_true _ (λ there. nowhere (on_from_test stands among routes c (k + 1) (omega arith) (omega (arith, below)) (ap (λ n. is_among c (slice_index_or routes n [])) same ∙ there)))

  pub vehicle_found : (customers : ℕ) (routes : List (List ℕ)) (c v p : ℕ) → IsPlan customers routes → StandsAt routes c v p → vehicle_of routes c ≡ Some v
  vehicle_found customers routes c v p plan at =
      let low = at.low in
      let high = at.high in
      let there : position (is_among c) routes ≡ Some (v - 1) =
      position_is (is_among c) routes (v - 1) [] (omega (arith, low, high)) (among_at routes c v p at)
      (λ k early. not_among routes c k (omega (arith, early, high, low)) (λ on.
      let one = (plan.alone c v p (k + 1) on.0 at on.1).0 in absurd (omega (arith, one, early, low)))) in
      ap (option_map (λ k. k + 1)) there ∙ ap (λ n. Some n) (let e : v - 1 + 1 ≡ v = omega (arith, low) in e)

  pub vehicle_missing : (routes : List (List ℕ)) (c : ℕ) → ¬ IsPlaced routes c → vehicle_of routes c ≡ None
  vehicle_missing routes c nowhere =
      ap (option_map (λ k. k + 1)) (position_none (is_among c) routes [] (λ k below. not_among routes c k below (λ on. nowhere (k + 1, on))))

  pub spot_found : (customers : ℕ) (routes : List (List ℕ)) (c v p : ℕ) → IsPlan customers routes → StandsAt routes c v p → spot_in routes c ≡ Some (v, p)
  spot_found customers routes c v p plan at =
      let low = at.low in
      let high = at.high in
      let from = at.place in
      let within : p - 1 < length (route_at routes v) = slice_get_within (route_at routes v) (p - 1) c at.found in
      let here : slice_index_or (route_at routes v) (p - 1) 0 ≡ c = get_or_from_slice_get (route_at routes v) (p - 1) c 0 at.found in
      let there : position (λ d. d == c) (route_at routes v) ≡ Some (p - 1) =
      position_is (λ d. d == c) (route_at routes v) (p - 1) 0 within (eq-eqb _ c here)
      (λ k early. false_from_ne_true _ (λ same.
      let is : slice_get (route_at routes v) k ≡ Some c = slice_get-get_or (route_at routes v) k 0 (omega (arith, early, within)) ∙ ap Some (eqb-true _ c same) in
      let stand : StandsAt routes c v (k + 1) = (stands.there routes c v k low high).0 is in
      let one = (plan.alone c v p v (k + 1) at stand).1 in absurd (omega (arith, one, early, from)))) in
      ap (spot_on routes c) (vehicle_found customers routes c v p plan at)
      ∙ (ap (option_map {U = ℕ × ℕ} (λ k. (v, k + 1))) there ∙ ap (λ n. Some (v, n)) (let e : p - 1 + 1 ≡ p = omega (arith, from) in e))

  pub spot_missing : (routes : List (List ℕ)) (c : ℕ) → ¬ IsPlaced routes c → spot_in routes c ≡ None
  spot_missing routes c nowhere = ap (spot_on routes c) (vehicle_missing routes c nowhere)

  -- and a spot that is found is where the customer stands
  spot_from : (routes : List (List ℕ)) (c : ℕ) (found : Option ℕ) → vehicle_of routes c ≡ found → (v p : ℕ) → spot_on routes c found ≡ Some (v, p) → StandsAt routes c v p
  spot_from routes c None is v p h = absurd cc
  spot_from routes c (Some w) is v p h = at_place (position (λ d. d == c) (route_at routes w)) refl h
    where
      at_place : (place : Option ℕ) → position (λ d. d == c) (route_at routes w) ≡ place → option_map {U = ℕ × ℕ} (λ k. (w, k + 1)) place ≡ Some (v, p) → StandsAt routes c v p
      at_place None at e = absurd cc
      at_place (Some k) at e =
          let on = on_its_vehicle stands among routes c w is in
          let is_at = position-Some (λ d. d == c) (route_at routes w) k 0 at in
          let here : slice_get (route_at routes w) k ≡ Some c = slice_get-get_or (route_at routes w) k 0 is_at.0 ∙ ap Some (eqb-true _ c is_at.1) in
          let same : (w, k + 1) ≡ (v, p) = pair_same (w, k + 1) (v, p) e in
          let vehicles : w ≡ v = ap (λ (q : ℕ × ℕ). q.0) same in
          let places : k + 1 ≡ p = ap (λ (q : ℕ × ℕ). q.1) same in
          subst (λ (u : ℕ). StandsAt routes c u p) vehicles
          (subst (λ (q : ℕ). StandsAt routes c w q) places ((stands.there routes c w k on.1.low on.1.high).0 here))

  pub spot_stands : (routes : List (List ℕ)) (c v p : ℕ) → spot_in routes c ≡ Some (v, p) → StandsAt routes c v p
  spot_stands routes c v p h = spot_from routes c (vehicle_of routes c) refl v p h
