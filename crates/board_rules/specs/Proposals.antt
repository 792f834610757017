-- What a proposal has to meet, in the words of the sources: roles that exist, all commits, all vehicles, all customers, and cumuls that exist.
use Rattle.std.specs.Prelude.{ℕ, ◌≡◌, ◌≤◌, ◌<◌, ◌⊎◌, true, All, List, length, Some, None}
use Rattle.policy_core.specs.State.{is_session}
use Rattle.policy_core.specs.Access.{CheckAccess}
use Rattle.permission_core.specs.declared.objects.Operation.TheVariants as operations
use Rattle.permission_core.specs.declared.objects.Object.{Object}
use Rattle.permission_core.specs.declared.objects.Object.TheVariants as objects
use Rattle.dimension_core.specs.Setting.{Setting}
use Rattle.dimension_core.specs.Feasible.{IsFeasible}
use Rattle.dimension_core.specs.NewRoutes.{IsOut}
use Rattle.plan_core.specs.declared.touch.Touch.{Touch}
use Rattle.plan_core.specs.Commits.{IsCurrentAt}
use Rattle.pin_core.specs.Pins.{IsHeld, IsFrontKept, AreFreezesKept}
use Rattle.pin_core.specs.Allowed.{IsFirstFailing}
use Rattle.move_core.specs.declared.moves.Move.{Move}
use Rattle.move_core.specs.Moves.{named_by, changes_by, effect}
use Rattle.move_core.specs.Touched.{touched_by}
use Rattle.board_rules.specs.declared.reply.Denial.{Denial}
use Rattle.board_rules.specs.declared.reply.Denial.TheVariants.{NoSession, BadVehicle, AccessVehicle, Ahead, Stale, BadPlace, AccessCustomer, Frozen, Pinned, Bound}
use Rattle.board_rules.specs.State.{BoardState}
use Rattle.board_rules.specs.Rules.{routes_after}

-- x is the first of a list for which P fails
abbrev pub FailsFirst : {X : Type 0} → (X → Type 0) → List X → X → Type 0
FailsFirst P xs x = (k : ℕ) × IsFirstFailing P xs k x

module _ (s : Setting) (state : BoardState) (session base : ℕ) (mv : Move) where
  abbrev pub SessionExists : Type 0
  SessionExists = is_session state.policy session ≡ true

  -- each named vehicle is in the fleet
  abbrev pub AreInFleet : Type 0
  AreInFleet = All (λ v. (1 ≤ v) × (v ≤ s.vehicles)) (named_by mv)

  abbrev pub MayMove : Object → Type 0
  MayMove object = CheckAccess state.policy session operations.Move object

  -- the session may move each named vehicle
  abbrev pub MayMoveVehicles : Type 0
  MayMoveVehicles = All (λ v. MayMove (objects.Vehicle v)) (named_by mv)

  -- there were as many commits as the base says
  abbrev pub BaseIsMade : Type 0
  BaseIsMade = base ≤ length state.commits

  -- no commit after the base changed a named vehicle
  abbrev pub AreCurrent : Type 0
  AreCurrent = All (IsCurrentAt state.commits base) (named_by mv)

  -- the move gives new routes
  abbrev pub HasEffect : Type 0
  HasEffect = effect s.customers state.routes mv ≡ Some (changes_by state.routes mv)

  -- the session may move each touched customer
  abbrev pub MayMoveCustomers : Type 0
  MayMoveCustomers = All (λ t. MayMove (objects.Customer t.customer)) (touched_by state.routes mv)

  -- the frozen front of a vehicle stays; and so for each vehicle
  abbrev pub KeepsFront : ℕ → Type 0
  KeepsFront v = IsFrontKept state.pins state.routes (routes_after state.routes mv) v

  abbrev pub FrontsAreKept : Type 0
  FrontsAreKept = AreFreezesKept state.pins state.routes (routes_after state.routes mv)

  -- a customer stands on the vehicle of its pin, if it has one, or the session may override that; and so for each customer
  abbrev pub IsFree : ℕ → Type 0
  IsFree c = IsHeld state.pins (routes_after state.routes mv) c ⊎ CheckAccess state.policy session operations.Override (objects.Customer c)

  abbrev pub PinsAllow : Type 0
  PinsAllow = (c : ℕ) → 1 ≤ c → IsFree c

  -- each new route is in bounds in each dimension
  abbrev pub StaysFeasible : Type 0
  StaysFeasible = IsFeasible s (routes_after state.routes mv)

  -- ---- the rules in their order, each with those before it

  abbrev pub MeetsSession : Type 0
  MeetsSession = SessionExists

  abbrev pub MeetsFleet : Type 0
  MeetsFleet = MeetsSession × AreInFleet

  abbrev pub MeetsVehicles : Type 0
  MeetsVehicles = MeetsFleet × MayMoveVehicles

  abbrev pub MeetsVersion : Type 0
  MeetsVersion = MeetsVehicles × BaseIsMade

  abbrev pub MeetsBase : Type 0
  MeetsBase = MeetsVersion × AreCurrent

  abbrev pub MeetsEffect : Type 0
  MeetsEffect = MeetsBase × HasEffect

  abbrev pub MeetsCustomers : Type 0
  MeetsCustomers = MeetsEffect × MayMoveCustomers

  abbrev pub MeetsFronts : Type 0
  MeetsFronts = MeetsCustomers × FrontsAreKept

  abbrev pub MeetsPins : Type 0
  MeetsPins = MeetsFronts × PinsAllow

  -- the denial is that of the first rule that fails, and names the first vehicle or customer for which it fails
  abbrev pub IsFirstFailed : Denial → Type 0
  IsFirstFailed NoSession = ¬ SessionExists
  IsFirstFailed BadVehicle = MeetsSession × ¬ AreInFleet
  IsFirstFailed (AccessVehicle v) = MeetsFleet × FailsFirst (λ w. MayMove (objects.Vehicle w)) (named_by mv) v
  IsFirstFailed Ahead = MeetsVehicles × (length state.commits < base)
  IsFirstFailed (Stale v) = MeetsVersion × FailsFirst (IsCurrentAt state.commits base) (named_by mv) v
  IsFirstFailed BadPlace = MeetsBase × (effect s.customers state.routes mv ≡ None)
  IsFirstFailed (AccessCustomer v p) = MeetsEffect
      × ((t : Touch) × FailsFirst (λ u. MayMove (objects.Customer u.customer)) (touched_by state.routes mv) t × (t.vehicle ≡ v) × (t.place ≡ p))
  IsFirstFailed (Frozen v) = MeetsCustomers × FailsFirst KeepsFront (named_by mv) v
  IsFirstFailed (Pinned v p) = MeetsFronts
      × ((t : Touch) × FailsFirst (λ u. IsFree u.customer) (touched_by state.routes mv) t × (t.vehicle ≡ v) × (t.place ≡ p))
  IsFirstFailed (Bound v d) = MeetsPins × IsOut s (changes_by state.routes mv) v d

-- Everything that a proposal has to meet.
pub record MayCommit (s : Setting) (state : BoardState) (session base : ℕ) (mv : Move) : Type 0 where
  pub exists : SessionExists s state session base mv
  pub fleet : AreInFleet s state session base mv
  pub vehicles : MayMoveVehicles s state session base mv
  pub made : BaseIsMade s state session base mv
  pub current : AreCurrent s state session base mv
  pub possible : HasEffect s state session base mv
  pub customers : MayMoveCustomers s state session base mv
  pub fronts : FrontsAreKept s state session base mv
  pub pins : PinsAllow s state session base mv
  pub feasible : StaysFeasible s state session base mv
