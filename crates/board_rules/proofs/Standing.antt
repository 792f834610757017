-- Who stands on a vehicle, by the test and by its place.
use Rattle.std.proofs.Common.{◌≡◌, ℕ, ◌+◌, ◌-◌, ◌≤◌, ◌⊎◌, inl, inr, true, List, [], length, Option, Some, None, refl, ap, ◌∙◌, arith}
use Rattle.std.specs.Prelude.{slice_index_or, position}
use Rattle.std.specs.Option.{option_map}
use Rattle.std.proofs.lemmas.Bool.{cases_Bool, cases_lt}
use Rattle.std.proofs.lemmas.List.Quantifiers.{position-Some}
use Rattle.plan_core.specs.Among.{is_among}
use Rattle.plan_core.specs.Plan.{route_at}
use Rattle.plan_core.specs.Laws.{CustomersStandByRoute, AmongIsTested}
use Rattle.pin_core.specs.Pins.{StandsOn}
use Rattle.board_rules.specs.Pinning.{vehicle_of}

from_map : (o : Option ℕ) (v : ℕ) → option_map (λ k. k + 1) o ≡ Some v → (k : ℕ) × (o ≡ Some k) × (k + 1 ≡ v)
from_map None v h = absurd cc
from_map (Some k) v h = (k, refl, cc)

module _ (stands : CustomersStandByRoute) (among : AmongIsTested) where
  -- a customer that is among a vehicle's stands on it
  pub on_from_test : (routes : List (List ℕ)) (c v : ℕ) → 1 ≤ v → v ≤ length routes → is_among c (route_at routes v) ≡ true → StandsOn routes c v
  on_from_test routes c v low high h = stands.somewhere routes c v low high ((among c (route_at routes v)).0 h)

  -- the vehicle of a customer is one on which it stands
  pub on_its_vehicle : (routes : List (List ℕ)) (c v : ℕ) → vehicle_of routes c ≡ Some v → StandsOn routes c v
  on_its_vehicle routes c v h =
      let r = from_map (position (is_among c) routes) v h in
      let at = position-Some (is_among c) routes r.0 [] r.1 in
      let v_is = r.2 in
      let within = at.0 in
      let same : v - 1 ≡ r.0 = omega (arith, v_is) in
      on_from_test routes c v (omega (arith, v_is)) (omega (arith, v_is, within)) (ap (λ k. is_among c (slice_index_or routes k [])) same ∙ at.1)

  -- whether a customer stands on a vehicle is decided
  pub stands_or_not : (routes : List (List ℕ)) (c v : ℕ) → StandsOn routes c v ⊎ (StandsOn routes c v → ⊥)
  stands_or_not routes c v = elim (cases_lt v 1) [
    | inl below ↦ inr (λ on. let low = on.1.low in absurd (omega arith))
    | inr low ↦ elim (cases_lt (length routes) v) [
      | inl above ↦ inr (λ on. let high = on.1.high in absurd (omega arith))
      | inr high ↦ elim (cases_Bool (is_among c (route_at routes v))) [
        | inl there ↦ inl (on_from_test routes c v low high there)
        | inr missing ↦ inr (λ on. let there = (among c (route_at routes v)).1 (stands.among routes c v on.0 on.1) in absurd cc)
      ]
    ]
  ]
