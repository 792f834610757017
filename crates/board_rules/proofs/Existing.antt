-- In a state that a legal history leaves each proposal has a right reply.
use Rattle.std.proofs.Common.{◌≡◌, ℕ, zero, suc, ◌+◌, ◌<◌, ◌⊎◌, inl, inr, Bool, List, [], ◌∷◌, length, take, Option, Some, None, refl, sym, ap, ◌∙◌, subst, arith}
use Rattle.std.specs.Prelude.{slice_get, cond}
use Rattle.std.proofs.lemmas.Bool.{cases_Bool, cases_eq, cases_lt}
use Rattle.dimension_core.specs.Setting.{Setting}
use Rattle.dimension_core.specs.Feasible.{IsFeasible}
use Rattle.dimension_core.specs.Laws.{SpansGoOn}
use Rattle.plan_core.specs.declared.touch.Touch.{Touch}
use Rattle.plan_core.specs.Plan.{Changes, IsPlan, AreApart, route_at}
use Rattle.pin_core.specs.Pins.{StandsOn, IsHeld, DoPinsHold, IsFrontKept, pin_of, front_of}
use Rattle.pin_core.specs.Allowed.{IsFirstFailing}
use Rattle.move_core.specs.declared.moves.Move.{Move}
use Rattle.move_core.specs.Moves.{named_by, changes_by, is_possible}
use Rattle.move_core.specs.Touched.{touched_by}
use Rattle.board_rules.specs.declared.call.Call.{Call}
use Rattle.board_rules.specs.declared.call.Call.TheVariants.{Propose, Pin, Unpin, Freeze, Thaw, Policy}
use Rattle.board_rules.specs.declared.reply.Denial.{Denial}
use Rattle.board_rules.specs.declared.reply.Denial.TheVariants.{NoSession, BadVehicle, AccessVehicle, Ahead, Stale, BadPlace, AccessCustomer, Frozen, Pinned, Bound}
use Rattle.board_rules.specs.declared.reply.Reply.{Reply}
use Rattle.board_rules.specs.declared.reply.Reply.TheVariants.{Committed, Denied}
use Rattle.board_rules.specs.Override.{IsAllowed, DoPinsAllow}
use Rattle.board_rules.specs.Policies.{policy_reply}
use Rattle.board_rules.specs.Pinning.{pin_refusal, unpin_refusal, freeze_refusal, thaw_refusal}
use Rattle.board_rules.specs.State.{BoardState}
use Rattle.board_rules.specs.Rules.{Basis, IsVerdictBy, PassesEffect, PassesCustomers, PassesFronts, PassesPins, PassesSession, PassesFleet, PassesVehicles, PassesVersion, PassesBase, basis_of, are_in_fleet, first_barred_vehicle, first_stale, first_barred_customer, may_override, routes_after}
use Rattle.board_rules.specs.RuleLaws.{effect_by_customers, effect_by_fronts, effect_by_pins}
use Rattle.board_rules.specs.Step.{IsReply, refused_by}
use Rattle.board_rules.specs.Good.{IsGood}
use Rattle.board_rules.specs.Given.{Laws}
use Rattle.board_rules.proofs.Bounds.{fit_or_out}
use Rattle.board_rules.proofs.Outs.{feasible_all}
use Rattle.board_rules.proofs.Standing.{stands_or_not}

-- two lists are the same or not
same_or_not : (xs ys : List ℕ) → (xs ≡ ys) ⊎ (xs ≡ ys → ⊥)
same_or_not [] [] = inl refl
same_or_not [] (y ∷ ys) = inr (λ h. absurd cc)
same_or_not (x ∷ xs) [] = inr (λ h. absurd cc)
same_or_not (x ∷ xs) (y ∷ ys) = elim (cases_eq x y) [
  | inr other ↦ inr (λ h. other cc)
  | inl here ↦ elim (same_or_not xs ys) [
    | inr other ↦ inr (λ h. other cc)
    | inl rest ↦ inl cc
  ]
]

-- where a fact is decided, all of a list have it, or there is a first that lacks it
all_or_first : {X : Type 0} (P : X → Type 0) → ((x : X) → P x ⊎ (P x → ⊥)) → (xs : List X)
    → ((k : ℕ) (x : X) → slice_get xs k ≡ Some x → P x) ⊎ ((x : X) × ((k : ℕ) × IsFirstFailing P xs k x))
all_or_first P decided [] = inl (λ k x at. absurd cc)
all_or_first P decided (y ∷ ys) = elim (decided y) [
  | inr lacks ↦ inr (y, (zero, record { found = refl; fails = lacks; before = λ j z early at. absurd (omega (arith, early)) }))
  | inl has ↦ elim (all_or_first P decided ys) [
    | inl rest ↦ inl (λ k x at. whole P y ys has rest k x at)
    | inr r ↦ inr (
      r.0,
      (
        suc r.1.0,
        record {
          found = r.1.1.found;
          fails = r.1.1.fails;
          before = λ j z early at. earlier P y ys r.1.0 has r.1.1.before j z early at;
        },
      ),
    )
  ]
]
  where
    whole : {X : Type 0} (P : X → Type 0) (y : X) (ys : List X) → P y → ((k : ℕ) (x : X) → slice_get ys k ≡ Some x → P x)
        → (k : ℕ) (x : X) → slice_get (y ∷ ys) k ≡ Some x → P x
    whole P y ys here rest zero x at = let e : y ≡ x = cc in subst P e here
    whole P y ys here rest (suc k) x at = rest k x at

    earlier : {X : Type 0} (P : X → Type 0) (y : X) (ys : List X) (n : ℕ) → P y → ((k : ℕ) (x : X) → k < n → slice_get ys k ≡ Some x → P x)
        → (k : ℕ) (x : X) → k < suc n → slice_get (y ∷ ys) k ≡ Some x → P x
    earlier P y ys n here rest zero x early at = let e : y ≡ x = cc in subst P e here
    earlier P y ys n here rest (suc k) x early at = rest k x (omega (arith, early)) at

none_or_some : {X : Type 0} (o : Option X) → (o ≡ None) ⊎ ((x : X) × (o ≡ Some x))
none_or_some None = inl refl
none_or_some (Some x) = inr (x, refl)

module _ (law : Laws) (spans : SpansGoOn) (s : Setting) (b : Basis) (base : ℕ) (mv : Move)
    (sized : length b.routes ≡ s.vehicles) (plan : IsPlan s.customers b.routes) (holding : DoPinsHold b.pins b.routes)
    (feasible : IsFeasible s b.routes) where
  Found : Type 0
  Found = (verdict : Option Denial) × IsVerdictBy s b base mv verdict

  pin_or_not : (c : ℕ) → IsHeld b.pins (routes_after b.routes mv) c ⊎ (IsHeld b.pins (routes_after b.routes mv) c → ⊥)
  pin_or_not c = by_pin (pin_of b.pins c) refl
    where
      by_pin : (pin : Option ℕ) → pin_of b.pins c ≡ pin → IsHeld b.pins (routes_after b.routes mv) c ⊎ (IsHeld b.pins (routes_after b.routes mv) c → ⊥)
      by_pin None is = inl (λ v at. let e = sym is ∙ at in absurd cc)
      by_pin (Some w) is = elim (stands_or_not law.stands law.among (routes_after b.routes mv) c w) [
        | inl on ↦ inl (λ v at. let e : w ≡ v = let both = sym is ∙ at in cc in subst (λ (u : ℕ). StandsOn (routes_after b.routes mv) c u) e on)
        | inr off ↦ inr (λ held. off (held w is))
      ]

  allowed_or_not : (c : ℕ) → IsAllowed b.pins (may_override b) (routes_after b.routes mv) c ⊎ (IsAllowed b.pins (may_override b) (routes_after b.routes mv) c → ⊥)
  allowed_or_not c = elim (cases_Bool (may_override b c)) [
    | inl may ↦ inl (λ lacks. let e = sym may ∙ lacks in absurd cc)
    | inr lacks ↦ elim (pin_or_not c) [ inl held ↦ inl (λ _. held) | inr loose ↦ inr (λ h. loose (h lacks)) ]
  ]

  -- a pinned customer stays on its vehicle or is touched
  all_allowed : PassesEffect s b base mv
      → ((k : ℕ) (t : Touch) → slice_get (touched_by b.routes mv) k ≡ Some t → IsAllowed b.pins (may_override b) (routes_after b.routes mv) t.customer)
      → DoPinsAllow b.pins (may_override b) (routes_after b.routes mv)
  all_allowed e touched c low lacks v at =
      let on = holding c low v at in
      elim (law.stays.stay s.customers b.routes mv (changes_by b.routes mv) c v on.0 e.1 on.1) [
        | inl stays ↦ stays
        | inr moved ↦ subst (λ (x : ℕ). IsAllowed b.pins (may_override b) (routes_after b.routes mv) x) moved.1.2 (touched moved.0 moved.1.0 moved.1.1) lacks v at
      ]

  at_bounds : PassesPins s b base mv → Found
  unfolding Found
  at_bounds h =
      let apart = (law.names.changes s.customers b.routes mv (changes_by b.routes mv) (effect_by_pins s b base mv h).1).apart in
      elim (fit_or_out spans s (changes_by b.routes mv)) [
        | inl fit ↦ (None, (h, feasible_all s (changes_by b.routes mv) b.routes sized (subst (λ (n : ℕ). AreApart n (changes_by b.routes mv)) sized apart) fit feasible))
        | inr out ↦ (Some (Bound out.0 out.1.0), (h, out.1.1))
      ]

  at_pins : PassesFronts s b base mv → Found
  unfolding Found
  at_pins h = elim (all_or_first (λ u. IsAllowed b.pins (may_override b) (routes_after b.routes mv) u.customer) (λ u. allowed_or_not u.customer) (touched_by b.routes mv)) [
    | inl all ↦ at_bounds (h, all_allowed (effect_by_fronts s b base mv h) all)
    | inr t ↦ (Some (Pinned t.0.vehicle t.0.place), (h, (t.0, t.1, refl, refl)))
  ]

  at_fronts : PassesCustomers s b base mv → Found
  unfolding Found
  at_fronts h =
      let e = (effect_by_customers s b base mv h).1 in
      let changes : Changes = changes_by b.routes mv in
      elim (all_or_first (IsFrontKept b.pins b.routes (routes_after b.routes mv))
      (λ v. same_or_not (take (front_of b.pins v) (route_at (routes_after b.routes mv) v)) (take (front_of b.pins v) (route_at b.routes v))) (named_by mv)) [
        | inl all ↦ at_pins (
          h,
          (law.pins.named b.pins changes b.routes (law.names.changes s.customers b.routes mv changes e).apart).1
              (subst (λ (vs : List ℕ). (j v : ℕ) → slice_get vs j ≡ Some v → IsFrontKept b.pins b.routes (routes_after b.routes mv) v)
              (sym (law.names.named s.customers b.routes mv changes e)) all),
        )
        | inr v ↦ (Some (Frozen v.0), (h, v.1))
      ]

  at_customers : PassesEffect s b base mv → Found
  unfolding Found
  at_customers h = elim (none_or_some (first_barred_customer b mv)) [
    | inl none ↦ at_fronts (h, none)
    | inr t ↦ (Some (AccessCustomer t.0.vehicle t.0.place), (h, (t.0, t.1, refl, refl)))
  ]

  at_effect : PassesBase s b base mv → Found
  unfolding Found
  at_effect h = elim (cases_Bool (is_possible s.customers b.routes mv)) [
    | inl can ↦ at_customers (h, ap (λ (t : Bool). cond t (Some (changes_by b.routes mv)) None) can)
    | inr cannot ↦ (Some BadPlace, (h, ap (λ (t : Bool). cond t (Some (changes_by b.routes mv)) None) cannot))
  ]

  at_base : PassesVersion s b base mv → Found
  unfolding Found
  at_base h = elim (none_or_some (first_stale b base mv)) [
    | inl none ↦ at_effect (h, none)
    | inr v ↦ (Some (Stale v.0), (h, v.1))
  ]

  at_version : PassesVehicles s b base mv → Found
  unfolding Found
  at_version h = elim (cases_lt b.version base) [
    | inl above ↦ (Some Ahead, (h, above))
    | inr made ↦ at_base (h, made)
  ]

  at_vehicles : PassesFleet s b base mv → Found
  unfolding Found
  at_vehicles h = elim (none_or_some (first_barred_vehicle b mv)) [
    | inl none ↦ at_version (h, none)
    | inr v ↦ (Some (AccessVehicle v.0), (h, v.1))
  ]

  at_fleet : PassesSession s b base mv → Found
  unfolding Found
  at_fleet h = elim (cases_Bool (are_in_fleet s.vehicles mv)) [
    | inl inside ↦ at_vehicles (h, inside)
    | inr outside ↦ (Some BadVehicle, (h, outside))
  ]

  pub a_verdict : (verdict : Option Denial) × IsVerdictBy s b base mv verdict
  unfolding Found
  a_verdict = elim (cases_Bool b.is_open) [
    | inl open' ↦ at_fleet open'
    | inr closed ↦ (Some NoSession, closed)
  ]

module _ (law : Laws) (spans : SpansGoOn) (s : Setting) (state : BoardState) (good : IsGood s state) where
  reply_to : (session base : ℕ) (mv : Move) → (verdict : Option Denial) → IsVerdictBy s (basis_of state session) base mv verdict
      → (reply : Reply) × IsReply s state (Propose session base mv) reply
  reply_to session base mv None h = (Committed (length state.commits + 1), (refl, h))
  reply_to session base mv (Some d) h = (Denied d, h)

  pub a_reply : (call : Call) → (reply : Reply) × IsReply s state call reply
  a_reply (Propose session base mv) =
      let v = a_verdict law spans s (basis_of state session) base mv good.sized good.plan good.pins good.feasible in
      reply_to session base mv v.0 v.1
  a_reply (Pin session c) = (refused_by (pin_refusal s (basis_of state session) c), refl)
  a_reply (Unpin session c) = (refused_by (unpin_refusal s (basis_of state session) c), refl)
  a_reply (Freeze session v n) = (refused_by (freeze_refusal s (basis_of state session) v n), refl)
  a_reply (Thaw session v n) = (refused_by (thaw_refusal s (basis_of state session) v n), refl)
  a_reply (Policy session command) = (policy_reply state.policy session command, refl)
