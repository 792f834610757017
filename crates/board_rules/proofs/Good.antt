-- What the opening state has, and every right reply keeps.
use Rattle.std.proofs.Common.{◌≡◌, ℕ, zero, suc, ◌-◌, ◌<◌, ◌≤◌, inl, inr, Bool, true, false, sym, subst, refl, arith, ◌∙◌, List, [], length, replicate, Option, Some, None, length-set}
use Rattle.std.specs.Prelude.{slice_get, slice_index_or, not, if◌then◌else◌, is_none}
use Rattle.std.specs.Option.{option_or}
use Rattle.std.proofs.Math.Logic.{∥∥₁_elim, ∥∥₁_map}
use Rattle.std.proofs.Math.Nat.{ℕ_set}
use Rattle.std.proofs.Props.{props}
use Rattle.std.proofs.lemmas.Bool.{and_parts, leb-true, ltb-true, not-false}
use Rattle.std.proofs.lemmas.List.{length-replicate}
use Rattle.dimension_core.specs.Setting.{Setting}
use Rattle.dimension_core.specs.Feasible.{IsFeasible}
use Rattle.plan_core.specs.Plan.{StandsAt, IsPlan, route_at}
use Rattle.pin_core.specs.Pins.{PinState, DoPinsHold, DoFrontsFit, front_of, with_pin, with_front}
use Rattle.move_core.specs.declared.moves.Move.{Move}
use Rattle.move_core.specs.Moves.{changes_by}
use Rattle.board_rules.specs.declared.call.Call.{Call}
use Rattle.board_rules.specs.declared.call.Call.TheVariants.{Propose, Pin, Unpin, Freeze, Thaw, Policy}
use Rattle.board_rules.specs.declared.reply.Refusal.{Refusal}
use Rattle.board_rules.specs.declared.reply.Refusal.TheVariants.{NoSession, BadVehicle, BadCustomer, NotPlaced, Length}
use Rattle.board_rules.specs.declared.reply.Reply.{Reply}
use Rattle.board_rules.specs.declared.reply.Reply.TheVariants.{Done, Session, Committed, Denied, Refused}
use Rattle.board_rules.specs.State.{BoardState, opening_state}
use Rattle.board_rules.specs.Rules.{Basis, PassesAll, is_one_of, basis_of, routes_after}
use Rattle.board_rules.specs.RuleLaws.{effect_by_all, fronts_by_all}
use Rattle.board_rules.specs.Pinning.{vehicle_of, pin_guard, freeze_guard, pin_refusal, unpin_refusal, freeze_refusal, thaw_refusal, pinned}
use Rattle.board_rules.specs.Step.{IsReply, after, committed, refused_by}
use Rattle.board_rules.specs.Good.{IsGood}
use Rattle.board_rules.specs.Given.{Laws}
use Rattle.board_rules.proofs.Standing.{on_its_vehicle, stands_or_not}

-- ---- what follows where a refusal does not come

is_done : (r : Option Refusal) → Done ≡ refused_by r → r ≡ None
is_done None h = refl
is_done (Some r) h = absurd cc

or_none : (a b : Option Refusal) → option_or a b ≡ None → (a ≡ None) × (b ≡ None)
or_none None b h = (refl, h)
or_none (Some r) b h = absurd cc

none_else : (t : Bool) (r : Refusal) (rest : Option Refusal) → (if t then Some r else rest) ≡ None → (t ≡ false) × (rest ≡ None)
none_else true r rest h = absurd cc
none_else false r rest h = (refl, h)

one_of : (n k : ℕ) → not (is_one_of n k) ≡ false → (1 ≤ k) × (k ≤ n)
one_of n k h = let parts = and_parts _ _ (not-false _ h) in (leb-true 1 k parts.0, leb-true k n parts.1)

is_there : (o : Option ℕ) → is_none o ≡ false → (v : ℕ) × (o ≡ Some v)
is_there None h = absurd cc
is_there (Some v) h = (v, refl)

module _ (s : Setting) (b : Basis) where
  customer_passes : (c : ℕ) → pin_guard s b c ≡ None → (1 ≤ c) × (c ≤ s.customers)
  unfolding pin_guard
  customer_passes c h = one_of s.customers c (none_else _ BadCustomer _ (none_else _ NoSession _ h).1).0

  vehicle_passes : (v : ℕ) → freeze_guard s b v ≡ None → (1 ≤ v) × (v ≤ s.vehicles)
  unfolding freeze_guard
  vehicle_passes v h = one_of s.vehicles v (none_else _ BadVehicle _ (none_else _ NoSession _ h).1).0

  pin_passes : (c : ℕ) → pin_refusal s b c ≡ None → (1 ≤ c) × (c ≤ s.customers) × ((v : ℕ) × (vehicle_of b.routes c ≡ Some v))
  unfolding pin_refusal
  pin_passes c h =
      let parts = or_none _ _ h in
      let known = customer_passes c parts.0 in
      (known.0, known.1, is_there (vehicle_of b.routes c) (none_else _ NotPlaced _ parts.1).0)

  unpin_passes : (c : ℕ) → unpin_refusal s b c ≡ None → (1 ≤ c) × (c ≤ s.customers)
  unfolding unpin_refusal
  unpin_passes c h = customer_passes c (or_none _ _ h).0

  freeze_passes : (v n : ℕ) → freeze_refusal s b v n ≡ None → (1 ≤ v) × (v ≤ s.vehicles) × (n ≤ length (route_at b.routes v))
  unfolding freeze_refusal
  freeze_passes v n h =
      let parts = or_none _ _ h in
      let known = vehicle_passes v parts.0 in
      (known.0, known.1, leb-true _ _ (and_parts _ _ (not-false _ (none_else _ Length _ parts.1).0)).1)

  thaw_passes : (v n : ℕ) → thaw_refusal s b v n ≡ None → (1 ≤ v) × (v ≤ s.vehicles) × (n < front_of b.pins v)
  unfolding thaw_refusal
  thaw_passes v n h =
      let parts = or_none _ _ h in
      let known = vehicle_passes v parts.0 in
      (known.0, known.1, ltb-true _ _ (not-false _ (none_else _ Length _ parts.1).0))

-- ---- each call

module _ (law : Laws) (s : Setting) (state : BoardState) (good : IsGood s state) where
  good_committed : (session base : ℕ) (mv : Move) → PassesAll s (basis_of state session) base mv → IsGood s (committed state mv)
  good_committed session base mv h =
      let count = law.routes.count (changes_by state.routes mv) state.routes in
      record {
        sized = count ∙ good.sized;
        plan = law.keeps.plan s.customers state.routes mv (changes_by state.routes mv) good.plan (effect_by_all s (basis_of state session) base mv h).1;
        feasible = h.1;
        pinned = law.pins.rows state.pins (routes_after state.routes mv) ∙ good.pinned;
        frozen = good.frozen;
        pins = law.pins.released state.pins (routes_after state.routes mv);
        fronts = law.pins.still state.pins state.routes (routes_after state.routes mv) count (fronts_by_all s (basis_of state session) base mv h) good.fronts;
      }

  -- other pins that hold, and frozen lengths that are within their routes
  good_pins : (pins : PinState) → length pins.pins ≡ length state.pins.pins → length pins.fronts ≡ length state.pins.fronts
      → DoPinsHold pins state.routes → DoFrontsFit pins state.routes → IsGood s (record state { pins = pins })
  good_pins pins rows fronts hold fit = record {
    sized = good.sized;
    plan = good.plan;
    feasible = good.feasible;
    pinned = rows ∙ good.pinned;
    frozen = fronts ∙ good.frozen;
    pins = hold;
    fronts = fit;
  }

  good_pinned : (b : Basis) → b.routes ≡ state.routes → (c : ℕ) → pin_refusal s b c ≡ None → IsGood s (record state { pins = pinned state.routes c state.pins })
  good_pinned b routes c h =
      let known = pin_passes s b c h in
      let few = known.1 in
      let there : vehicle_of state.routes c ≡ Some known.2.0 = subst (λ (r : List (List ℕ)). vehicle_of r c ≡ Some known.2.0) routes known.2.1 in
      let rows = good.pinned in
      good_pins (pinned state.routes c state.pins) (length-set state.pins.pins (c - 1) (vehicle_of state.routes c)) refl
      (subst (λ (pin : Option ℕ). DoPinsHold (with_pin c pin state.pins) state.routes) (sym there)
      (law.pins.pin state.pins state.routes c known.2.0 good.pins known.0 (omega (arith, rows, few)) (on_its_vehicle law.stands law.among state.routes c known.2.0 there)))
      good.fronts

  good_unpinned : (b : Basis) (c : ℕ) → unpin_refusal s b c ≡ None → IsGood s (record state { pins = with_pin c None state.pins })
  good_unpinned b c h =
      let known = unpin_passes s b c h in
      let few = known.1 in
      let rows = good.pinned in
      good_pins (with_pin c None state.pins) (length-set state.pins.pins (c - 1) None) refl
      (law.pins.unpin state.pins state.routes c good.pins known.0 (omega (arith, rows, few))) good.fronts

  good_frozen : (b : Basis) → b.routes ≡ state.routes → (v n : ℕ) → freeze_refusal s b v n ≡ None → IsGood s (record state { pins = with_front v n state.pins })
  good_frozen b routes v n h =
      let known = freeze_passes s b v n h in
      let high = known.1 in
      let rows = good.frozen in
      let within : n ≤ length (route_at state.routes v) = subst (λ (r : List (List ℕ)). n ≤ length (route_at r v)) routes known.2 in
      good_pins (with_front v n state.pins) refl (length-set state.pins.fronts (v - 1) n) good.pins
      (law.pins.freeze state.pins state.routes v n good.fronts known.0 (omega (arith, rows, high)) within)

  good_thawed : (b : Basis) → b.pins ≡ state.pins → (v n : ℕ) → thaw_refusal s b v n ≡ None → IsGood s (record state { pins = with_front v n state.pins })
  good_thawed b pins v n h =
      let known = thaw_passes s b v n h in
      let high = known.1 in
      let rows = good.frozen in
      let sized = good.sized in
      let below : n < front_of state.pins v = subst (λ (p : PinState). n < front_of p v) pins known.2 in
      good_pins (with_front v n state.pins) refl (length-set state.pins.fronts (v - 1) n) good.pins
      (law.pins.thaw state.pins state.routes v n good.fronts known.0 (omega (arith, rows, high)) (omega (arith, sized, high)) (omega (arith, below)))

  pub good_after : (call : Call) (reply : Reply) → IsReply s state call reply → IsGood s (after state call reply)
  good_after (Propose session base mv) (Committed n) h = good_committed session base mv h.1
  good_after (Propose session base mv) Done h = absurd h
  good_after (Propose session base mv) (Session n) h = absurd h
  good_after (Propose session base mv) (Denied d) h = good
  good_after (Propose session base mv) (Refused r) h = absurd h
  good_after (Pin session c) Done h = good_pinned (basis_of state session) refl c (is_done _ h)
  good_after (Pin session c) (Session n) h = good
  good_after (Pin session c) (Committed n) h = good
  good_after (Pin session c) (Denied d) h = good
  good_after (Pin session c) (Refused r) h = good
  good_after (Unpin session c) Done h = good_unpinned (basis_of state session) c (is_done _ h)
  good_after (Unpin session c) (Session n) h = good
  good_after (Unpin session c) (Committed n) h = good
  good_after (Unpin session c) (Denied d) h = good
  good_after (Unpin session c) (Refused r) h = good
  good_after (Freeze session v n) Done h = good_frozen (basis_of state session) refl v n (is_done _ h)
  good_after (Freeze session v n) (Session m) h = good
  good_after (Freeze session v n) (Committed m) h = good
  good_after (Freeze session v n) (Denied d) h = good
  good_after (Freeze session v n) (Refused r) h = good
  good_after (Thaw session v n) Done h = good_thawed (basis_of state session) refl v n (is_done _ h)
  good_after (Thaw session v n) (Session m) h = good
  good_after (Thaw session v n) (Committed m) h = good
  good_after (Thaw session v n) (Denied d) h = good
  good_after (Thaw session v n) (Refused r) h = good
  good_after (Policy session command) Done h = good_policy
    where
      good_policy : IsGood s (after state (Policy session command) Done)
      good_policy = record { sized = good.sized; plan = good.plan; feasible = good.feasible; pinned = good.pinned; frozen = good.frozen; pins = good.pins; fronts = good.fronts }
  good_after (Policy session command) (Session n) h =
      record { sized = good.sized; plan = good.plan; feasible = good.feasible; pinned = good.pinned; frozen = good.frozen; pins = good.pins; fronts = good.fronts }
  good_after (Policy session command) (Committed n) h = good
  good_after (Policy session command) (Denied d) h = good
  good_after (Policy session command) (Refused r) h = good

-- ---- the opening state

opening-empty : (n k : ℕ) → slice_index_or (replicate n []) k [] ≡ (let e : List ℕ = [] in e)
opening-empty zero k = refl
opening-empty (suc n) zero = refl
opening-empty (suc n) (suc k) = opening-empty n k

nobody : (n c v p : ℕ) → StandsAt (replicate n []) c v p → ⊥
nobody n c v p at =
    let h : slice_get (let e : List ℕ = [] in e) (p - 1) ≡ Some c = subst (λ (xs : List ℕ). slice_get xs (p - 1) ≡ Some c) (opening-empty n (v - 1)) at.found in
    cc

pub good_opening : Laws → (s : Setting) → IsGood s (opening_state s)
good_opening law s = record {
  sized = length-replicate s.vehicles [];
  plan = record {
    known = λ c v p at. absurd (nobody s.vehicles c v p at);
    alone = λ c v p w q at bt. absurd (nobody s.vehicles c v p at);
  };
  feasible = λ v low high k h. ∣ inl (opening-empty s.vehicles (v - 1)) ∣₁;
  pinned = length-replicate s.customers None;
  frozen = length-replicate s.vehicles 0;
  pins = law.pins.held_at_first s.customers s.vehicles (replicate s.vehicles []);
  fronts = law.pins.fit_at_first s.customers s.vehicles (replicate s.vehicles []);
}

-- ---- a state that is said to be good is

plan_alone : (n : ℕ) (routes : List (List ℕ)) → IsProp (IsPlan n routes)
plan_alone n routes = hlevel props

feasible_alone : (s : Setting) (routes : List (List ℕ)) → IsProp (IsFeasible s routes)
feasible_alone s routes = hlevel props

fit_alone : (pins : PinState) (routes : List (List ℕ)) → IsProp (DoFrontsFit pins routes)
fit_alone pins routes = hlevel props

holding : Laws → (pins : PinState) (routes : List (List ℕ)) → ∥ DoPinsHold pins routes ∥₁ → DoPinsHold pins routes
holding law pins routes said c low v at = elim (stands_or_not law.stands law.among routes c v) [
  | inl on ↦ on
  | inr off ↦ absurd (∥∥₁_elim said (λ x y. absurd x) (λ hold. off (hold c low v at)))
]

pub good_said : Laws → (s : Setting) (state : BoardState) → ∥ IsGood s state ∥₁ → IsGood s state
good_said law s state said = record {
  sized = ∥∥₁_elim said (ℕ_set _ _) (λ good. good.sized);
  plan = ∥∥₁_elim said (plan_alone s.customers state.routes) (λ good. good.plan);
  feasible = ∥∥₁_elim said (feasible_alone s state.routes) (λ good. good.feasible);
  pinned = ∥∥₁_elim said (ℕ_set _ _) (λ good. good.pinned);
  frozen = ∥∥₁_elim said (ℕ_set _ _) (λ good. good.frozen);
  pins = holding law state.pins state.routes (∥∥₁_map said (λ good. good.pins));
  fronts = ∥∥₁_elim said (fit_alone state.pins state.routes) (λ good. good.fronts);
}
