-- What is held of a board's state, and that it stands for the state.
use Rattle.std.specs.declared.sync.Arc.{Arc}
use Rattle.std.specs.Prelude.{◌≡◌, ℕ, ◌<◌, nat_lt, List, [], length, replicate, Bool, None}
use Rattle.limits.specs.declared.TheConstants.{MOST_EVENTS}
use Rattle.dimension_core.specs.Setting.{Setting}
use Rattle.dimension_core.specs.Feasible.{IsFeasible}
use Rattle.plan_core.specs.Drafts.{DraftState, with_drafts}
use Rattle.plan_core.specs.Plan.{PlanState, changes_of, stamp_of, with_routes}
use Rattle.plan_core.specs.Commits.{AreStamps}
use Rattle.pin_core.specs.Pins.{PinState, DoPinsHold, DoFrontsFit}
use Rattle.range_cache.specs.Cache.{CacheState, IsCacheOf}
use Rattle.rbac_core.specs.Tried.{Tried}
use Rattle.policy_core.specs.Opening.{opening}
use Rattle.policy_core.specs.State.{PolicyState, is_session}
use Rattle.permission_table.specs.Tables.{TablesState, allows}
use Rattle.permission_table.specs.Compiled.{AreCompiled, HasSizes}
use Rattle.board_rules.specs.State.{BoardState, opening_state}
use Rattle.board_rules.specs.Rules.{Basis, may_override}

-- the policy with its spare, the compiled permissions, the plan, its pins and freezes, and the kept ranges
pub record HeldState : Type 0 where
  pub policy : Tried
  pub tables : TablesState
  pub plan : PlanState
  pub pins : PinState
  pub cache : CacheState

-- What is held stands for the state: the policy is the policy, the tables are those of the policy, the routes and pins are the plan's,
-- its stamps are those of the commits, and the kept ranges are those of the routes.
pub record Holds (s : Setting) (held : HeldState) (state : BoardState) : Type 0 where
  pub policy : held.policy.now ≡ state.policy
  pub compiled : ∥ AreCompiled held.tables state.policy ∥₁
  pub sizes : HasSizes state.policy held.tables
  pub customers : held.plan.customers ≡ s.customers
  pub routes : held.plan.routes ≡ state.routes
  pub stamps : AreStamps state.commits held.plan
  pub pins : held.pins ≡ state.pins
  pub cache : IsCacheOf s state.routes held.cache

-- the facts by which what is held answers the rules: compiled permissions, and stamps in place of the list of commits
abbrev pub held_basis : HeldState → ℕ → Basis
held_basis held session = record {
  is_open = is_session held.policy.now session;
  may = allows held.tables session;
  version = held.plan.version;
  is_changed = λ base v. nat_lt base (stamp_of held.plan v);
  routes = held.plan.routes;
  pins = held.pins;
}

-- whether the session may override the pin of a customer
abbrev pub may_free : HeldState → ℕ → ℕ → Bool
may_free held session = may_override (held_basis held session)

-- the routes with new ones in their places
abbrev pub routes_with : {Z : Type 0} → HeldState → List (ℕ × Arc (List ℕ) Z) → List (List ℕ)
routes_with held changes = with_routes (changes_of changes) held.plan.routes

-- the same by the drafts of new ones
abbrev pub routes_drafted : HeldState → List DraftState → List (List ℕ)
routes_drafted held drafts = with_drafts drafts held.plan.routes

-- What judging requires of what is held: the plan has the setup's sizes, with a row for each customer's pin and each vehicle's frozen
-- front; the pins hold; the fronts are within their routes; the routes are feasible; the ranges are those of the plan; the tables are those
-- of the policy; and one more commit may be counted.
pub record IsReady (s : Setting) (held : HeldState) : Type 0 where
  pub customers : held.plan.customers ≡ s.customers
  pub sized : length held.plan.routes ≡ s.vehicles
  pub pinned : length held.pins.pins ≡ s.customers
  pub frozen : length held.pins.fronts ≡ s.vehicles
  pub holding : DoPinsHold held.pins held.plan.routes
  pub fitting : DoFrontsFit held.pins held.plan.routes
  pub feasible : IsFeasible s held.plan.routes
  pub cache : IsCacheOf s held.plan.routes held.cache
  pub compiled : ∥ AreCompiled held.tables held.policy.now ∥₁
  pub sizes : HasSizes held.policy.now held.tables
  pub room : held.plan.version < MOST_EVENTS

-- a plan of this many customers and vehicles on which nobody stands, and no pin or frozen stop on it
abbrev pub empty_plan : ℕ → ℕ → PlanState
empty_plan customers vehicles = record { customers = customers; routes = replicate vehicles []; version = 0; stamps = replicate vehicles 0 }

abbrev pub no_pins : ℕ → ℕ → PinState
no_pins customers vehicles = record { pins = replicate customers None; fronts = replicate vehicles 0 }

-- what is held stands for the state of a board before its first call
unfoldable pub IsOpening : Setting → HeldState → Type 0
IsOpening s held = Holds s held (opening_state s)

-- the policy is that of a board before its first call, and the tables say its access
unfoldable pub IsOpened : ℕ → ℕ → PolicyState → TablesState → Type 0
IsOpened customers vehicles policy tables = (policy ≡ opening customers vehicles) × AreCompiled tables policy × HasSizes policy tables
