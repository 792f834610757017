-- The verdict on a proposal: the first rule that fails, in the order of the rules.
use Rattle.std.specs.Prelude.{ℕ, ◌≡◌, ◌≤◌, ◌<◌, Bool, true, false, not, ◌&&◌, nat_le, List, length, drop, find, Option, Some, None}
use Rattle.std.specs.List.{list_any, list_all}
use Rattle.policy_core.specs.State.{is_session}
use Rattle.policy_core.specs.Access.{has_access}
use Rattle.permission_core.specs.declared.objects.Operation.{Operation}
use Rattle.permission_core.specs.declared.objects.Operation.TheVariants as operations
use Rattle.permission_core.specs.declared.objects.Object.{Object}
use Rattle.permission_core.specs.declared.objects.Object.TheVariants as objects
use Rattle.dimension_core.specs.Setting.{Setting}
use Rattle.dimension_core.specs.Feasible.{IsFeasible}
use Rattle.dimension_core.specs.NewRoutes.{IsOut}
use Rattle.plan_core.specs.declared.touch.Touch.{Touch}
use Rattle.plan_core.specs.Plan.{with_routes}
use Rattle.plan_core.specs.Among.{is_among}
use Rattle.pin_core.specs.Pins.{PinState, AreFreezesKept}
use Rattle.pin_core.specs.Allowed.{IsFirstThawed}
use Rattle.move_core.specs.declared.moves.Move.{Move}
use Rattle.move_core.specs.Moves.{named_by, changes_by, effect}
use Rattle.move_core.specs.Touched.{touched_by}
use Rattle.board_rules.specs.declared.reply.Denial.{Denial}
use Rattle.board_rules.specs.declared.reply.Denial.TheVariants.{NoSession, BadVehicle, AccessVehicle, Ahead, Stale, BadPlace, AccessCustomer, Frozen, Pinned, Bound}
use Rattle.board_rules.specs.Override.{DoPinsAllow, IsFirstHeldBack}
use Rattle.board_rules.specs.State.{BoardState}

-- What the rules know of a state, for a session.
pub record Basis : Type 0 where
  -- whether the session exists
  pub is_open : Bool
  -- whether CheckAccess holds for an operation on an object
  pub may : Operation → Object → Bool
  -- how many commits there are
  pub version : ℕ
  -- whether a commit that is numbered above a base changed a vehicle
  pub is_changed : ℕ → ℕ → Bool
  pub routes : List (List ℕ)
  pub pins : PinState

-- whether some commit after the base changed the vehicle
abbrev pub is_changed_after : List (List ℕ) → ℕ → ℕ → Bool
is_changed_after commits base vehicle = list_any (is_among vehicle) (drop base commits)

-- the facts of a state: CheckAccess in its policy, and all its commits
abbrev pub basis_of : BoardState → ℕ → Basis
basis_of state session = record {
  is_open = is_session state.policy session;
  may = has_access state.policy session;
  version = length state.commits;
  is_changed = is_changed_after state.commits;
  routes = state.routes;
  pins = state.pins;
}

-- facts that say the same, of the vehicles of the fleet alone where a commit is concerned
pub record Agree (s : Setting) (b c : Basis) : Type 0 where
  pub is_open : b.is_open ≡ c.is_open
  pub may : (operation : Operation) (object : Object) → b.may operation object ≡ c.may operation object
  pub version : b.version ≡ c.version
  pub is_changed : (base v : ℕ) → 1 ≤ v → v ≤ s.vehicles → b.is_changed base v ≡ c.is_changed base v
  pub routes : b.routes ≡ c.routes
  pub pins : b.pins ≡ c.pins

-- ---- what the rules ask

-- whether a number is 1 to n
abbrev pub is_one_of : ℕ → ℕ → Bool
is_one_of n k = nat_le 1 k && nat_le k n

-- whether each named vehicle is in a fleet of this size
abbrev pub are_in_fleet : ℕ → Move → Bool
are_in_fleet vehicles mv = list_all (is_one_of vehicles) (named_by mv)

-- the first named vehicle that the session may not move
abbrev pub first_barred_vehicle : Basis → Move → Option ℕ
first_barred_vehicle b mv = find (λ v. not (b.may operations.Move (objects.Vehicle v))) (named_by mv)

-- the first named vehicle that a commit after the base changed
abbrev pub first_stale : Basis → ℕ → Move → Option ℕ
first_stale b base mv = find (b.is_changed base) (named_by mv)

-- the first touched customer that the session may not move
abbrev pub first_barred_customer : Basis → Move → Option Touch
first_barred_customer b mv = find (λ t. not (b.may operations.Move (objects.Customer t.customer))) (touched_by b.routes mv)

-- whether the session may move a customer off the vehicle to which it is pinned
abbrev pub may_override : Basis → ℕ → Bool
may_override b customer = b.may operations.Override (objects.Customer customer)

-- the routes once the named vehicles have their new ones
abbrev pub routes_after : List (List ℕ) → Move → List (List ℕ)
routes_after routes mv = with_routes (changes_by routes mv) routes

-- ---- the rules in their order, each with those before it

module _ (s : Setting) (b : Basis) (base : ℕ) (mv : Move) where
  -- the session exists
  abbrev pub PassesSession : Type 0
  PassesSession = b.is_open ≡ true

  -- and each named vehicle is in the fleet
  abbrev pub PassesFleet : Type 0
  PassesFleet = PassesSession × (are_in_fleet s.vehicles mv ≡ true)

  -- and the session may move each of them
  abbrev pub PassesVehicles : Type 0
  PassesVehicles = PassesFleet × (first_barred_vehicle b mv ≡ None)

  -- and the base is not above the version
  abbrev pub PassesVersion : Type 0
  PassesVersion = PassesVehicles × (base ≤ b.version)

  -- and no commit after it changed a named vehicle
  abbrev pub PassesBase : Type 0
  PassesBase = PassesVersion × (first_stale b base mv ≡ None)

  -- and the move has an effect
  abbrev pub PassesEffect : Type 0
  PassesEffect = PassesBase × (effect s.customers b.routes mv ≡ Some (changes_by b.routes mv))

  -- and the session may move each touched customer
  abbrev pub PassesCustomers : Type 0
  PassesCustomers = PassesEffect × (first_barred_customer b mv ≡ None)

  -- and for each vehicle the frozen front stays
  abbrev pub PassesFronts : Type 0
  PassesFronts = PassesCustomers × AreFreezesKept b.pins b.routes (routes_after b.routes mv)

  -- and no pin forbids it: each pinned customer stands on its vehicle, or the session may override its pin
  abbrev pub PassesPins : Type 0
  PassesPins = PassesFronts × DoPinsAllow b.pins (may_override b) (routes_after b.routes mv)

  -- and the new plan is feasible
  abbrev pub PassesAll : Type 0
  PassesAll = PassesPins × IsFeasible s (routes_after b.routes mv)

  -- The verdict on a proposal by these facts: none where it passes every rule; or else the first rule that it fails, with the first
  -- vehicle or customer for which it fails.
  abbrev pub IsVerdictBy : Option Denial → Type 0
  IsVerdictBy None = PassesAll
  IsVerdictBy (Some NoSession) = b.is_open ≡ false
  IsVerdictBy (Some BadVehicle) = PassesSession × (are_in_fleet s.vehicles mv ≡ false)
  IsVerdictBy (Some (AccessVehicle v)) = PassesFleet × (first_barred_vehicle b mv ≡ Some v)
  IsVerdictBy (Some Ahead) = PassesVehicles × (b.version < base)
  IsVerdictBy (Some (Stale v)) = PassesVersion × (first_stale b base mv ≡ Some v)
  IsVerdictBy (Some BadPlace) = PassesBase × (effect s.customers b.routes mv ≡ None)
  IsVerdictBy (Some (AccessCustomer v p)) = PassesEffect
      × ((t : Touch) × (first_barred_customer b mv ≡ Some t) × (t.vehicle ≡ v) × (t.place ≡ p))
  IsVerdictBy (Some (Frozen v)) = PassesCustomers × IsFirstThawed b.pins b.routes (routes_after b.routes mv) (named_by mv) v
  IsVerdictBy (Some (Pinned v p)) = PassesFronts
      × ((t : Touch) × IsFirstHeldBack b.pins (may_override b) (routes_after b.routes mv) (touched_by b.routes mv) t × (t.vehicle ≡ v) × (t.place ≡ p))
  IsVerdictBy (Some (Bound v d)) = PassesPins × IsOut s (changes_by b.routes mv) v d

-- the verdict on a session's proposal in a state
abbrev pub IsVerdict : Setting → BoardState → ℕ → ℕ → Move → Option Denial → Type 0
IsVerdict s state session base mv verdict = IsVerdictBy s (basis_of state session) base mv verdict
