-- Why a proposal is not committed.
use Rattle.std.specs.Prelude.{◌≡◌, ℕ, ◌+◌, ◌≤◌, Bool, List, length, Option, Some, None, Result, Ok, Err, ⊤, All}
use Rattle.dimension_core.specs.Setting.{Setting}
use Rattle.plan_core.specs.declared.touch.Touch.{Touch}
use Rattle.plan_core.specs.Plan.{Changes, IsPlan, AreChanges, with_routes}
use Rattle.plan_core.specs.Commits.{named_vehicles}
use Rattle.range_cache.specs.Asks.{judge_asks}
use Rattle.pin_core.specs.Pins.{PinState, DoPinsHold, DoFrontsFit, AreFreezesKept}
use Rattle.pin_core.specs.Allowed.{AreAllTouched, IsFirstThawed}
use Rattle.move_core.specs.declared.moves.Move.{Move}
use Rattle.board_rules.specs.declared.reply.Denial.{Denial}
use Rattle.board_rules.specs.declared.reply.Denial.TheVariants.{Frozen, Pinned}
use Rattle.board_rules.specs.Override.{IsFirstHeldBack}
use Rattle.board_rules.specs.Rules.{Basis, IsVerdictBy}
use Rattle.board_state.specs.declared.stop.Stop.{Stop}
use Rattle.board_state.specs.declared.stop.Stop.TheVariants.{Denied, NoMemory}
use Rattle.board_state.specs.Held.{HeldState}
use Rattle.callback_store.specs.declared.meter.Meter.{Meter}
use Rattle.move_core.specs.Moves.{changes_by}
use Rattle.board_state.specs.Work.{Works, Stage, at_vehicles, at_facts, at_fronts, at_pins, at_bounds, stage_of, leaving_by, least_at, most_at, asks_at, asks_least_at}

-- a proposal is stopped by the denial that is right for it
abbrev pub IsStop : Setting → Basis → ℕ → Move → Stop → Type 0
IsStop s b base mv (Denied denial) = IsVerdictBy s b base mv (Some denial)
IsStop s b base mv NoMemory = ⊤

-- new routes are stopped by a frozen front, or by a pin that the session may not override
abbrev pub IsPinStop : PinState → (ℕ → Bool) → List (List ℕ) → Changes → List Touch → Stop → Type 0
IsPinStop pins free routes changes touched (Denied (Frozen v)) =
    IsFirstThawed pins routes (with_routes changes routes) (named_vehicles changes) v
IsPinStop pins free routes changes touched (Denied (Pinned v p)) = AreFreezesKept pins routes (with_routes changes routes)
    × ((t : Touch) × IsFirstHeldBack pins free (with_routes changes routes) touched t × (t.vehicle ≡ v) × (t.place ≡ p))
IsPinStop pins free routes changes touched (Denied _) = ⊥
IsPinStop pins free routes changes touched NoMemory = ⊤

-- what judging the pins and fronts of new routes requires: they are those of a move that has an effect, with the customers that it touches
pub record ArePlaceable (held : HeldState) (new : Changes) (touches : List Touch) : Type 0 where
  pub pinned : length held.pins.pins ≡ held.plan.customers
  pub frozen : length held.pins.fronts ≡ length held.plan.routes
  pub holding : DoPinsHold held.pins held.plan.routes
  pub fitting : DoFrontsFit held.pins held.plan.routes
  pub changes : AreChanges (length held.plan.routes) new
  pub plan : IsPlan held.plan.customers (with_routes new held.plan.routes)
  pub known : All (λ t. (1 ≤ t.customer) × (t.customer ≤ held.plan.customers)) touches
  pub touched : AreAllTouched held.plan.routes (with_routes new held.plan.routes) touches

-- a denial by one of the rules that need no new route and no touched customer
abbrev pub IsEarly : Stage → Type 0
IsEarly at_vehicles = ⊤
IsEarly at_facts = ⊤
IsEarly _ = ⊥

abbrev pub ComesEarly : Denial → Type 0
ComesEarly denial = IsEarly (stage_of denial)

-- new routes are stopped by one of the last rules, or since memory ran out
abbrev pub IsLateAt : Stage → Type 0
IsLateAt at_fronts = ⊤
IsLateAt at_pins = ⊤
IsLateAt (at_bounds v d) = ⊤
IsLateAt _ = ⊥

abbrev pub IsLate : Stop → Type 0
IsLate (Denied denial) = IsLateAt (stage_of denial)
IsLate NoMemory = ⊤

-- by one of those on pins and fronts, or since memory ran out
abbrev pub IsPinnedAt : Stage → Type 0
IsPinnedAt at_fronts = ⊤
IsPinnedAt at_pins = ⊤
IsPinnedAt _ = ⊥

abbrev pub IsPinned : Stop → Type 0
IsPinned (Denied denial) = IsPinnedAt (stage_of denial)
IsPinned NoMemory = ⊤

-- what a judgement counts at least and at most by its result, where n vehicles are named and t customers touched of which l would leave, and
-- a whole judgement of the bounds makes m asks
abbrev pub stop_asks : ℕ → Stop → ℕ
stop_asks m (Denied denial) = asks_at m (stage_of denial)
stop_asks m NoMemory = m

abbrev pub stop_least : ℕ → ℕ → ℕ → Stop → ℕ
stop_least n t l (Denied denial) = least_at n t l (stage_of denial)
stop_least n t l NoMemory = 0

abbrev pub stop_most : ℕ → ℕ → ℕ → Stop → ℕ
stop_most n t l (Denied denial) = most_at n t l (stage_of denial)
stop_most n t l NoMemory = n + t + l

abbrev pub stop_asks_least : ℕ → List (List ℕ) → Changes → Stop → ℕ
stop_asks_least dimensions routes changes (Denied denial) = asks_least_at dimensions routes changes (stage_of denial)
stop_asks_least dimensions routes changes NoMemory = 0

abbrev pub asks_least : {C : Type 0} → ℕ → List (List ℕ) → Changes → Result C Stop → ℕ
asks_least dimensions routes changes (Ok new) = judge_asks dimensions routes changes
asks_least dimensions routes changes (Err stop) = stop_asks_least dimensions routes changes stop

abbrev pub asks_most : {C : Type 0} → ℕ → Result C Stop → ℕ
asks_most m (Ok new) = m
asks_most m (Err stop) = stop_asks m stop

abbrev pub probes_least : {C : Type 0} → ℕ → ℕ → ℕ → Result C Stop → ℕ
probes_least n t l (Ok new) = n + t + l
probes_least n t l (Err stop) = stop_least n t l stop

abbrev pub probes_most : {C : Type 0} → ℕ → ℕ → ℕ → Result C Stop → ℕ
probes_most n t l (Ok new) = n + t + l
probes_most n t l (Err stop) = stop_most n t l stop

-- the same where only the first rules were tried, with or without a denial
abbrev pub early_least : ℕ → Option Denial → ℕ
early_least n None = n
early_least n (Some denial) = least_at n 0 0 (stage_of denial)

-- the work of judging a move on what is held, by its result, where n named vehicles and t touched customers were still to be probed
abbrev pub IsWorkOfMove : {C : Type 0} → Setting → HeldState → Move → ℕ → ℕ → Result C Stop → Meter → Meter → Type 0
IsWorkOfMove s held mv n t result old new =
    let changes = changes_by held.plan.routes mv in
    let asks = judge_asks (length s.dimensions) held.plan.routes changes in
    let left = leaving_by held.pins held.plan.routes mv in
    Works old new (asks_least (length s.dimensions) held.plan.routes changes result) (asks_most asks result)
    (probes_least n t left result) (probes_most n t left result)

-- the work of judging the pins of new routes, by its result, where this many customers would leave the vehicle of their pin
abbrev pub IsWorkOfPins : {C : Type 0} → ℕ → Result C Stop → Meter → Meter → Type 0
IsWorkOfPins left result old new = Works old new 0 0 (probes_least 0 0 left result) left
