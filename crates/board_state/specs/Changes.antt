-- What a judged call changes of what is held.
use Rattle.std.specs.Prelude.{◌≡◌, ◌≢◌, ℕ, ◌≤◌, ◌<◌, ◌⊎◌, List, length, Some, None, Result, MatchResult, All}
use Rattle.std.specs.Option.{option_map}
use Rattle.limits.specs.declared.TheConstants.{MOST_CUSTOMERS, MOST_EVENTS}
use Rattle.dimension_core.specs.Setting.{Setting}
use Rattle.plan_core.specs.Plan.{PlanState, IsPlan, AreChanges, AreSizes, changes_of, replaced, route_at, with_routes}
use Rattle.plan_core.specs.Commits.{AreStamps}
use Rattle.pin_core.specs.Pins.{PinState, IsHeld, pin_of, front_of, with_pin, with_front}
use Rattle.pin_core.specs.Allowed.{IsTouched}
use Rattle.pin_core.specs.Override.{after_commit}
use Rattle.move_core.specs.Moves.{vehicles_of, effect}
use Rattle.move_core.specs.Touched.{touched_by}
use Rattle.range_cache.specs.Cache.{IsCacheOf}
use Rattle.range_cache.specs.Pending.{AreNewRows}
use Rattle.rbac_core.specs.Tried.{Tried, idle}
use Rattle.rbac_core.specs.Step.{refusal_of, after}
use Rattle.policy_core.specs.State.{PolicyState}
use Rattle.permission_table.specs.Tables.{TablesState}
use Rattle.permission_table.specs.Compiled.{AreCompiled, WillBeCompiled, HasSizes}
use Rattle.board_rules.specs.State.{BoardState}
use Rattle.board_rules.specs.declared.hold.HoldRefusal.{HoldRefusal}
use Rattle.board_rules.specs.declared.reply.Reply.{Reply}
use Rattle.board_state.specs.declared.change.Commit.{Commit}
use Rattle.board_state.specs.declared.change.NewRoutes.{NewRoutes}
use Rattle.move_core.specs.declared.moves.Move.{Move}
use Rattle.board_state.specs.declared.change.Change.{Change}
use Rattle.board_state.specs.declared.change.Change.TheVariants.{Nothing, Replace, Pins, Command}
use Rattle.board_state.specs.declared.change.PinChange.{PinChange}
use Rattle.board_state.specs.declared.change.PinChange.TheVariants.{Pin, Unpin, Front}
use Rattle.board_state.specs.Held.{HeldState, Holds, routes_with}
use Rattle.board_state.specs.Deltas.{AreFreed}

-- a judged call as contracts see it: what it was judged on, the reply, and what changes
pub record JudgedState : Type 0 where
  pub of : HeldState
  pub reply : Reply
  pub change : Change

-- the plan, the pins and the policy once the change is in place
abbrev pub plan_after : PlanState → Change → PlanState
plan_after plan (Replace commit) = replaced (changes_of commit.new.changes.items) plan
plan_after plan _ = plan

abbrev pub pins_with : PinChange → PinState → PinState
pins_with (Pin customer vehicle) pins = with_pin customer (Some vehicle) pins
pins_with (Unpin customer) pins = with_pin customer None pins
pins_with (Front vehicle n) pins = with_front vehicle n pins

abbrev pub pins_after : HeldState → Change → PinState
pins_after held (Replace commit) = after_commit (with_routes (changes_of commit.new.changes.items) held.plan.routes) held.pins
pins_after held (Pins change) = pins_with change held.pins
pins_after held _ = held.pins

abbrev pub policy_made : Tried → Change → PolicyState
policy_made policy (Command rows command) = policy.tried
policy_made policy _ = policy.now

-- the tables say CheckAccess of the policy once the change is in place
abbrev pub WillCompile : TablesState → Change → PolicyState → Type 0
WillCompile tables (Command rows command) p = WillBeCompiled rows p
WillCompile tables _ p = AreCompiled tables p

-- the kept ranges are those of the routes once the change is in place
abbrev pub WillKeep : Setting → HeldState → Change → List (List ℕ) → Type 0
WillKeep s held (Replace commit) routes = IsCacheOf s held.plan.routes held.cache
    × AreNewRows s (changes_of commit.new.changes.items) commit.new.pending.rows
    × (with_routes (changes_of commit.new.changes.items) held.plan.routes ≡ routes)
WillKeep s held _ routes = IsCacheOf s routes held.cache

-- what is held stands for the state once the change is in place
pub record WillHold (s : Setting) (held : HeldState) (change : Change) (next : BoardState) : Type 0 where
  pub policy : policy_made held.policy change ≡ next.policy
  pub compiled : ∥ WillCompile held.tables change next.policy ∥₁
  pub sizes : HasSizes next.policy held.tables
  pub customers : held.plan.customers ≡ s.customers
  pub routes : (plan_after held.plan change).routes ≡ next.routes
  pub stamps : AreStamps next.commits (plan_after held.plan change)
  pub pins : pins_after held change ≡ next.pins
  pub cache : WillKeep s held change next.routes

-- what is held stands for the state once a judged change of pins is in place, or as it is where the call is refused
abbrev pub WillHoldPins : Setting → HeldState → Result PinChange HoldRefusal → BoardState → Type 0
WillHoldPins s held judged next = MatchResult judged (λ change. WillHold s held (Pins change) next) (λ refusal. Holds s held next)

-- New routes may be put in place: there are one or two of them, they make a plan, every customer that leaves its vehicle is touched, and
-- those whose pins are released are marked.
pub record ArePlaceableRoutes (held : HeldState) (new : NewRoutes) : Type 0 where
  pub lengths : All (λ c. length c.1.value ≤ MOST_CUSTOMERS) new.changes.items
  pub freed : AreFreed held.pins (routes_with held new.changes.items) new.touched.items new.freed.items
  pub changes : AreChanges (length held.plan.routes) (changes_of new.changes.items)
  pub plan : IsPlan held.plan.customers (routes_with held new.changes.items)
  pub room : held.plan.version < MOST_EVENTS
  pub known : All (λ t. (1 ≤ t.customer) × (t.customer ≤ length held.pins.pins)) new.touched.items
  pub touched : (c : ℕ) → 1 ≤ c → IsHeld held.pins (routes_with held new.changes.items) c ⊎ IsTouched new.touched.items c
  pub pending : new.pending.of ≡ held.cache

-- new routes are those of a move that has an effect, with the customers that it touches
pub record AreMadeBy (held : HeldState) (mv : Move) (new : NewRoutes) : Type 0 where
  pub sound : IsPlan held.plan.customers held.plan.routes
  pub possible : effect held.plan.customers held.plan.routes mv ≡ Some (changes_of new.changes.items)
  pub by : new.touched.items ≡ touched_by held.plan.routes mv

-- A commit may be put in place: its new routes may, they are those of its move, and it has the routes that the move's vehicles had before.
pub record IsCommittable (held : HeldState) (commit : Commit) : Type 0 where
  pub routes : ArePlaceableRoutes held commit.new
  pub made : AreMadeBy held commit.mv commit.new
  pub former : commit.former.value ≡ route_at held.plan.routes (vehicles_of commit.mv).0
  pub other : option_map (λ r. r.value) commit.other ≡ option_map (route_at held.plan.routes) (vehicles_of commit.mv).1

-- A change of pins or frozen lengths may be put in place, and it changes something: a customer is pinned that was not, or unpinned that was
-- pinned, or a frozen length differs from the old one.
abbrev pub ArePinsSettleable : PinState → PinChange → Type 0
ArePinsSettleable pins (Pin customer vehicle) = (1 ≤ customer) × (customer ≤ length pins.pins) × (pin_of pins customer ≡ None)
ArePinsSettleable pins (Unpin customer) = (1 ≤ customer) × (customer ≤ length pins.pins) × (pin_of pins customer ≢ None)
ArePinsSettleable pins (Front vehicle n) = (1 ≤ vehicle) × (vehicle ≤ length pins.fronts) × (n ≢ front_of pins vehicle)

-- a change may be put in place
abbrev pub IsSettleable : HeldState → Change → Type 0
IsSettleable held (Replace commit) = IsCommittable held commit
IsSettleable held (Pins change) = ArePinsSettleable held.pins change
IsSettleable held (Command rows command) = (rows.of ≡ held.tables) × (refusal_of held.policy.now command ≡ None)
    × (held.policy.tried ≡ after held.policy.now command)
IsSettleable held Nothing = Unit {0}

-- a judged call may be put in place, has the version of what it was judged on, and the numbers of that plan are a plan's
pub record IsJudged (held : HeldState) (version : ℕ) (change : Change) : Type 0 where
  pub ready : IsSettleable held change
  pub then : version ≡ held.plan.version
  pub sizes : AreSizes held.plan

-- the change may be put in place, and makes these pins and frozen lengths
pub record PinsWillBe (held : HeldState) (change : PinChange) (next : PinState) : Type 0 where
  pub made : pins_with change held.pins ≡ next
  pub ready : ArePinsSettleable held.pins change

-- the change is of the policy alone, or there is none, and it may be put in place
abbrev pub IsCommandReady : Tried → TablesState → Change → Type 0
IsCommandReady policy tables (Command rows command) = (rows.of ≡ tables) × (refusal_of policy.now command ≡ None)
    × (policy.tried ≡ after policy.now command)
IsCommandReady policy tables Nothing = Unit {0}
IsCommandReady policy tables _ = ⊥

-- the change may be put in place, and makes this policy with its rows and nothing else
pub record PolicyWillBe (policy : Tried) (tables : TablesState) (change : Change) (next : PolicyState) : Type 0 where
  pub ready : IsCommandReady policy tables change
  pub made : policy_made policy change ≡ next
  pub compiled : ∥ WillCompile tables change next ∥₁
  pub sizes : HasSizes next tables

-- nothing that is held differs, except what was tried on the spare policy, and how many more rows there is room for
abbrev pub Tries : HeldState → HeldState → Type 0
Tries old new = new ≡ record old {
  policy = record new.policy { now = old.policy.now };
  tables = record old.tables { room = new.tables.room };
}

-- nothing is tried on the spare policy, unless the change is the command that was tried
abbrev pub IsGivenUp : Change → Tried → Type 0
IsGivenUp (Command rows command) policy = Unit {0}
IsGivenUp _ policy = policy.tried ≡ policy.now

-- the same of a call's result with this change in it, and nothing is tried where memory ran out
abbrev pub IsNonePending : {R E : Type 0} → Result R E → (R → Change) → Tried → Type 0
IsNonePending result change policy = MatchResult result (λ r. IsGivenUp (change r) policy) (λ _. policy.tried ≡ policy.now)

-- nothing that is held differs, except that nothing is tried on the spare policy any more
abbrev pub GivesUp : HeldState → HeldState → Type 0
GivesUp old new = new ≡ record old { policy = idle old.policy.now old.policy.level }
