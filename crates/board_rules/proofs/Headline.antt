-- The rules as they compute, and in the words of the sources.
use Rattle.std.proofs.Common.{◌≡◌, ℕ, ◌≤◌, ◌⊎◌, inl, inr, Bool, true, false, List, Some, None, refl}
use Rattle.std.specs.Prelude.{◌↔◌, All, find, not}
use Rattle.std.proofs.lemmas.Bool.{cases_Bool, and_parts, and_from, both_ways, false_from_ne_true, leb-true, le-leb, not-false, not_from_true}
use Rattle.policy_core.specs.Access.{has_access, CheckAccess}
use Rattle.permission_core.specs.declared.objects.Operation.{Operation}
use Rattle.permission_core.specs.declared.objects.Operation.TheVariants as operations
use Rattle.permission_core.specs.declared.objects.Object.{Object}
use Rattle.permission_core.specs.declared.objects.Object.TheVariants as objects
use Rattle.dimension_core.specs.Setting.{Setting}
use Rattle.plan_core.specs.declared.touch.Touch.{Touch}
use Rattle.plan_core.specs.Commits.{IsCurrentAt}
use Rattle.move_core.specs.declared.moves.Move.{Move}
use Rattle.move_core.specs.Moves.{named_by}
use Rattle.move_core.specs.Touched.{touched_by}
use Rattle.board_rules.specs.declared.reply.Denial.{Denial}
use Rattle.board_rules.specs.declared.reply.Denial.TheVariants.{NoSession, BadVehicle, AccessVehicle, Ahead, Stale, BadPlace, AccessCustomer, Frozen, Pinned, Bound}
use Rattle.board_rules.specs.declared.call.Call.TheVariants.{Propose}
use Rattle.board_rules.specs.declared.reply.Reply.{Reply}
use Rattle.board_rules.specs.declared.reply.Reply.TheVariants.{Done, Session, Committed, Denied, Refused}
use Rattle.board_rules.specs.Step.{IsReply}
use Rattle.board_rules.specs.Override.{IsAllowed, DoPinsAllow}
use Rattle.board_rules.specs.State.{BoardState}
use Rattle.board_rules.specs.Rules.{Basis, IsVerdict, PassesFleet, PassesVehicles, PassesVersion, PassesBase, PassesEffect, PassesCustomers, PassesFronts, PassesPins, basis_of, are_in_fleet, is_one_of, is_changed_after, first_barred_vehicle, first_stale, first_barred_customer, may_override, routes_after}
use Rattle.board_rules.specs.Proposals.{FailsFirst, SessionExists, AreInFleet, MayMove, MayMoveVehicles, AreCurrent, MayMoveCustomers, IsFree, PinsAllow, StaysFeasible, MeetsFleet, MeetsVehicles, MeetsVersion, MeetsBase, MeetsEffect, MeetsCustomers, MeetsFronts, MeetsPins, IsFirstFailed, MayCommit}
use Rattle.board_rules.proofs.Finds.{none_passes, none_found, first_passes, first_found, failing_same, all_by_place, place_by_all, list_all_from, list_all_by}

-- nothing is found exactly where every element has what the test denies
none_all : {X : Type 0} (p : X → Bool) (P : X → Type 0) → ((x : X) → (p x ≡ false) ↔ P x) → (xs : List X) → (find p xs ≡ None) ↔ All P xs
none_all p P same xs = (
  (λ h. all_by_place P xs (λ k x at. (same x).0 (none_passes p xs h k x at))),
  (λ h. none_found p xs (λ k x at. (same x).1 (place_by_all P xs h k x at))),
)

-- and what is found is the first that lacks it
some_first : {X : Type 0} (p : X → Bool) (P : X → Type 0) → ((x : X) → (p x ≡ false) ↔ P x) → (xs : List X) (x : X) → (find p xs ≡ Some x) ↔ FailsFirst P xs x
some_first p P same xs x = (
  (λ h. let r = first_passes p xs x h in (r.0, failing_same (λ y. p y ≡ false) P xs r.0 x (λ y. (same y).0) (λ y. (same y).1) r.1)),
  (λ h. first_found p xs h.0 x (failing_same P (λ y. p y ≡ false) xs h.0 x (λ y. (same y).1) (λ y. (same y).0) h.1)),
)

-- a test that is denied
denied : (b : Bool) (P : Type 0) → (b ≡ true) ↔ P → (not b ≡ false) ↔ P
denied b P same = ((λ h. same.0 (not-false b h)), (λ h. not_from_true b (same.1 h)))

failed : (b : Bool) (P : Type 0) → (b ≡ true) ↔ P → (b ≡ false) ↔ (¬ P)
failed b P same = ((λ h p. both_ways b h (same.1 p)), (λ no. false_from_ne_true b (λ h. no (same.0 h))))

one_of_both : (n k : ℕ) → (is_one_of n k ≡ true) ↔ ((1 ≤ k) × (k ≤ n))
one_of_both n k = (
  (λ h. let parts = and_parts _ _ h in (leb-true 1 k parts.0, leb-true k n parts.1)),
  (λ h. and_from _ _ (le-leb 1 k h.0) (le-leb k n h.1)),
)

-- what is the same both ways, said of two facts, and of a touched customer that stands at a place
both_same : {A B C D : Type 0} → A ↔ B → C ↔ D → (A × C) ↔ (B × D)
both_same p q = ((λ h. (p.0 h.0, q.0 h.1)), (λ h. (p.1 h.0, q.1 h.1)))

itself : {A : Type 0} → A ↔ A
itself = ((λ h. h), (λ h. h))

touch_same : {P Q : Touch → Type 0} → ((t : Touch) → P t ↔ Q t) → (v p : ℕ)
    → ((t : Touch) × P t × (t.vehicle ≡ v) × (t.place ≡ p)) ↔ ((t : Touch) × Q t × (t.vehicle ≡ v) × (t.place ≡ p))
touch_same same v p = ((λ h. (h.0, (same h.0).0 h.1, h.2, h.3)), (λ h. (h.0, (same h.0).1 h.1, h.2, h.3)))

module _ (by_commits : (commits : List (List ℕ)) (base v : ℕ) → (is_changed_after commits base v ≡ false) ↔ IsCurrentAt commits base v)
    (s : Setting) (state : BoardState) (session base : ℕ) (mv : Move)
    (access : (operation : Operation) (object : Object) → (has_access state.policy session operation object ≡ true) ↔ CheckAccess state.policy session operation object) where
  abbrev b : Basis
  b = basis_of state session

  fleet : (are_in_fleet s.vehicles mv ≡ true) ↔ AreInFleet s state session base mv
  fleet = (
    (λ h. all_by_place (λ v. (1 ≤ v) × (v ≤ s.vehicles)) (named_by mv) (λ k v at. (one_of_both s.vehicles v).0 (list_all_from (is_one_of s.vehicles) (named_by mv) h k v at))),
    (λ h. list_all_by (is_one_of s.vehicles) (named_by mv) (λ k v at. (one_of_both s.vehicles v).1 (place_by_all (λ v. (1 ≤ v) × (v ≤ s.vehicles)) (named_by mv) h k v at))),
  )

  barred : (object : Object) → (not (b.may operations.Move object) ≡ false) ↔ MayMove s state session base mv object
  barred object = denied (b.may operations.Move object) (MayMove s state session base mv object) (access operations.Move object)

  vehicles : (first_barred_vehicle b mv ≡ None) ↔ MayMoveVehicles s state session base mv
  vehicles = none_all (λ v. not (b.may operations.Move (objects.Vehicle v))) (λ v. MayMove s state session base mv (objects.Vehicle v)) (λ v. barred (objects.Vehicle v)) (named_by mv)

  vehicle : (v : ℕ) → (first_barred_vehicle b mv ≡ Some v) ↔ FailsFirst (λ w. MayMove s state session base mv (objects.Vehicle w)) (named_by mv) v
  vehicle v = some_first (λ w. not (b.may operations.Move (objects.Vehicle w))) (λ w. MayMove s state session base mv (objects.Vehicle w)) (λ w. barred (objects.Vehicle w)) (named_by mv) v

  current : (first_stale b base mv ≡ None) ↔ AreCurrent s state session base mv
  current = none_all (b.is_changed base) (IsCurrentAt state.commits base) (by_commits state.commits base) (named_by mv)

  stale : (v : ℕ) → (first_stale b base mv ≡ Some v) ↔ FailsFirst (IsCurrentAt state.commits base) (named_by mv) v
  stale v = some_first (b.is_changed base) (IsCurrentAt state.commits base) (by_commits state.commits base) (named_by mv) v

  customers : (first_barred_customer b mv ≡ None) ↔ MayMoveCustomers s state session base mv
  customers = none_all (λ t. not (b.may operations.Move (objects.Customer t.customer))) (λ t. MayMove s state session base mv (objects.Customer t.customer))
      (λ t. barred (objects.Customer t.customer)) (touched_by state.routes mv)

  customer : (t : Touch) → (first_barred_customer b mv ≡ Some t) ↔ FailsFirst (λ u. MayMove s state session base mv (objects.Customer u.customer)) (touched_by state.routes mv) t
  customer t = some_first (λ u. not (b.may operations.Move (objects.Customer u.customer))) (λ u. MayMove s state session base mv (objects.Customer u.customer))
      (λ u. barred (objects.Customer u.customer)) (touched_by state.routes mv) t

  free : (c : ℕ) → IsAllowed state.pins (may_override b) (routes_after state.routes mv) c ↔ IsFree s state session base mv c
  free c = (
    (λ h. elim (cases_Bool (may_override b c)) [
      | inl may ↦ inr ((access operations.Override (objects.Customer c)).0 may)
      | inr lacks ↦ inl (h lacks)
    ]),
    (λ h lacks. elim h [
      | inl held ↦ held
      | inr may ↦ absurd (both_ways (may_override b c) lacks ((access operations.Override (objects.Customer c)).1 may))
    ]),
  )

  pins : DoPinsAllow state.pins (may_override b) (routes_after state.routes mv) ↔ PinsAllow s state session base mv
  pins = ((λ h c low. (free c).0 (h c low)), (λ h c low. (free c).1 (h c low)))

  held_back : (t : Touch) → FailsFirst (λ u. IsAllowed state.pins (may_override b) (routes_after state.routes mv) u.customer) (touched_by state.routes mv) t
      ↔ FailsFirst (λ u. IsFree s state session base mv u.customer) (touched_by state.routes mv) t
  held_back t = (
    (λ h. (h.0, failing_same _ _ (touched_by state.routes mv) h.0 t (λ u. (free u.customer).0) (λ u. (free u.customer).1) h.1)),
    (λ h. (h.0, failing_same _ _ (touched_by state.routes mv) h.0 t (λ u. (free u.customer).1) (λ u. (free u.customer).0) h.1)),
  )

  -- ---- the rules in their order

  meets_fleet : PassesFleet s b base mv ↔ MeetsFleet s state session base mv
  meets_fleet = both_same itself fleet

  meets_vehicles : PassesVehicles s b base mv ↔ MeetsVehicles s state session base mv
  meets_vehicles = both_same meets_fleet vehicles

  meets_version : PassesVersion s b base mv ↔ MeetsVersion s state session base mv
  meets_version = both_same meets_vehicles itself

  meets_base : PassesBase s b base mv ↔ MeetsBase s state session base mv
  meets_base = both_same meets_version current

  meets_effect : PassesEffect s b base mv ↔ MeetsEffect s state session base mv
  meets_effect = both_same meets_base itself

  meets_customers : PassesCustomers s b base mv ↔ MeetsCustomers s state session base mv
  meets_customers = both_same meets_effect customers

  meets_fronts : PassesFronts s b base mv ↔ MeetsFronts s state session base mv
  meets_fronts = both_same meets_customers itself

  meets_pins : PassesPins s b base mv ↔ MeetsPins s state session base mv
  meets_pins = both_same meets_fronts pins

  -- what meets every rule, by the names of the rules
  may_commit : MeetsPins s state session base mv → StaysFeasible s state session base mv → MayCommit s state session base mv
  may_commit by_pins feasible =
      let by_fronts = by_pins.0 in
      let by_customers = by_fronts.0 in
      let by_effect = by_customers.0 in
      let by_base = by_effect.0 in
      let by_version = by_base.0 in
      let by_vehicles = by_version.0 in
      let by_fleet = by_vehicles.0 in
      record {
        exists = by_fleet.0;
        fleet = by_fleet.1;
        vehicles = by_vehicles.1;
        made = by_version.1;
        current = by_base.1;
        possible = by_effect.1;
        customers = by_customers.1;
        fronts = by_fronts.1;
        pins = by_pins.1;
        feasible = feasible;
      }

  meets_all : MayCommit s state session base mv → MeetsPins s state session base mv
  meets_all h = ((((((((h.exists, h.fleet), h.vehicles), h.made), h.current), h.possible), h.customers), h.fronts), h.pins)

  pub commits_exactly : IsVerdict s state session base mv None ↔ MayCommit s state session base mv
  commits_exactly = ((λ h. may_commit (meets_pins.0 h.0) h.1), (λ h. (meets_pins.1 (meets_all h), h.feasible)))

  pub denies_exactly : (d : Denial) → IsVerdict s state session base mv (Some d) ↔ IsFirstFailed s state session base mv d
  denies_exactly NoSession = failed _ (SessionExists s state session base mv) itself
  denies_exactly BadVehicle = both_same itself (failed (are_in_fleet s.vehicles mv) (AreInFleet s state session base mv) fleet)
  denies_exactly (AccessVehicle v) = both_same meets_fleet (vehicle v)
  denies_exactly Ahead = both_same meets_vehicles itself
  denies_exactly (Stale v) = both_same meets_version (stale v)
  denies_exactly BadPlace = both_same meets_base itself
  denies_exactly (AccessCustomer v p) = both_same meets_effect (touch_same customer v p)
  denies_exactly (Frozen v) = both_same meets_customers itself
  denies_exactly (Pinned v p) = both_same meets_fronts (touch_same held_back v p)
  denies_exactly (Bound v d) = both_same meets_pins itself

-- a right reply to a proposal is one of two
pub committed_or_denied : (s : Setting) (state : BoardState) (session base : ℕ) (mv : Move) (reply : Reply) → IsReply s state (Propose session base mv) reply
    → ((n : ℕ) × (reply ≡ Committed n)) ⊎ ((denial : Denial) × (reply ≡ Denied denial))
committed_or_denied s state session base mv (Committed n) h = inl (n, refl)
committed_or_denied s state session base mv (Denied d) h = inr (d, refl)
committed_or_denied s state session base mv Done h = absurd h
committed_or_denied s state session base mv (Session n) h = absurd h
committed_or_denied s state session base mv (Refused r) h = absurd h
