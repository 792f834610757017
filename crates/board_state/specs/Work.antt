-- How much work one call counts.
use Rattle.std.specs.Prelude.{◌≡◌, ℕ, ◌+◌, ◌≤◌, min, Bool, ◌&&◌, is_some, is_none, List, length, count_by}
use Rattle.callback_store.specs.declared.meter.Meter.{Meter}
use Rattle.plan_core.specs.declared.touch.Touch.{Touch}
use Rattle.pin_core.specs.Pins.{PinState, pin_of}
use Rattle.pin_core.specs.Override.{after_commit}
use Rattle.dimension_core.specs.Setting.{Setting}
use Rattle.plan_core.specs.Drafts.{DraftState}
use Rattle.plan_core.specs.Plan.{Changes}
use Rattle.range_cache.specs.Asks.{judge_asks, asks_before}
use Rattle.move_core.specs.declared.moves.Move.{Move}
use Rattle.move_core.specs.Moves.{named_by, changes_by}
use Rattle.move_core.specs.Touched.{touched_by}
use Rattle.board_rules.specs.declared.call.Call.{Call}
use Rattle.board_rules.specs.declared.call.Call.TheVariants.{Propose}
use Rattle.board_rules.specs.declared.reply.Denial.{Denial}
use Rattle.board_rules.specs.declared.reply.Denial.TheVariants.{NoSession, BadVehicle, AccessVehicle, Ahead, Stale, BadPlace, AccessCustomer, Frozen, Pinned, Bound}
use Rattle.board_rules.specs.declared.reply.Reply.{Reply}
use Rattle.board_rules.specs.declared.reply.Reply.TheVariants.{Committed, Denied}
use Rattle.board_rules.specs.Rules.{routes_after}
use Rattle.board_state.specs.Held.{HeldState, routes_drafted}

-- From the old meter to the new one between these many asks and between these many probes were counted, and no walk. A count that stops
-- at its greatest value shows as many as it can.
pub record Works (old new : Meter) (least_asks asks least_probes probes : ℕ) : Type 0 where
  pub walks : new.walks ≡ old.walks
  pub asks_low : old.asks ≤ new.asks
  pub asks_least : min (old.asks + least_asks) 18446744073709551615 ≤ new.asks
  pub asks_high : new.asks ≤ old.asks + asks
  pub probes_low : old.probes ≤ new.probes
  pub probes_least : min (old.probes + least_probes) 18446744073709551615 ≤ new.probes
  pub probes_high : new.probes ≤ old.probes + probes

-- exactly this many asks and probes were counted
abbrev pub WorksJust : Meter → Meter → ℕ → ℕ → Type 0
WorksJust old new asks probes = Works old new asks asks probes probes

-- at most this many asks and probes were counted
abbrev pub WorksAtMost : Meter → Meter → ℕ → ℕ → Type 0
WorksAtMost old new asks probes = Works old new 0 asks 0 probes

-- a customer is pinned to a vehicle on which it would not stand in other routes, so that a commit of these would release its pin
abbrev pub is_leaving : PinState → List (List ℕ) → ℕ → Bool
is_leaving pins others c = is_some (pin_of pins c) && is_none (pin_of (after_commit others pins) c)

-- how many touched customers would leave the vehicle to which they are pinned
abbrev pub leaving : PinState → List (List ℕ) → List Touch → ℕ
leaving pins others touched = count_by (λ t. is_leaving pins others t.customer) touched

-- how many of them the new routes of some drafts would take off that vehicle
abbrev pub leaving_with : HeldState → List DraftState → List Touch → ℕ
leaving_with held drafts touched = leaving held.pins (routes_drafted held drafts) touched

-- how many of those that a move touches it would take off that vehicle
abbrev pub leaving_by : PinState → List (List ℕ) → Move → ℕ
leaving_by pins routes mv = leaving pins (routes_after routes mv) (touched_by routes mv)

-- ---- what one call may cost

-- the asks of a proposal: for each named vehicle and dimension one for each stop of its new route after the longest common prefix with the
-- old one, and one for the return
abbrev pub call_asks : Setting → List (List ℕ) → Call → ℕ
call_asks s routes (Propose session base mv) = judge_asks (length s.dimensions) routes (changes_by routes mv)
call_asks s routes _ = 0

-- its probes: one for each named vehicle and each touched customer, and one more for each of these that would leave the vehicle to which it
-- is pinned; every other call makes one
abbrev pub call_probes : PinState → List (List ℕ) → Call → ℕ
call_probes pins routes (Propose session base mv) =
    length (named_by mv) + length (touched_by routes mv) + leaving_by pins routes mv
call_probes pins routes _ = 1

-- How far a proposal was judged that is denied: the rules before the one that fails make all their probes and asks, that one makes some of
-- its own, and a later rule none; but where frozen stops would change, the probes for pins may be made too.
pub data Stage : Type 0 where
  -- among the named vehicles
  at_vehicles : Stage
  -- behind them, by a rule that probes nothing
  at_facts : Stage
  -- among the touched customers
  at_customers : Stage
  -- at the frozen fronts
  at_fronts : Stage
  -- behind the pins
  at_pins : Stage
  -- at the dimension of a vehicle that is out of bounds
  at_bounds : ℕ → ℕ → Stage

abbrev pub stage_of : Denial → Stage
stage_of NoSession = at_vehicles
stage_of BadVehicle = at_vehicles
stage_of (AccessVehicle v) = at_vehicles
stage_of Ahead = at_facts
stage_of (Stale v) = at_facts
stage_of BadPlace = at_facts
stage_of (AccessCustomer v p) = at_customers
stage_of (Frozen v) = at_fronts
stage_of (Pinned v p) = at_pins
stage_of (Bound v d) = at_bounds v d

-- how many probes are made up to a stage, at least and at most, where n vehicles are named and t customers touched of which l would leave
abbrev pub least_at : ℕ → ℕ → ℕ → Stage → ℕ
least_at n t l at_vehicles = 1
least_at n t l at_facts = n
least_at n t l at_customers = n + 1
least_at n t l at_fronts = n + t
least_at n t l at_pins = n + t + l
least_at n t l (at_bounds v d) = n + t + l

abbrev pub most_at : ℕ → ℕ → ℕ → Stage → ℕ
most_at n t l at_vehicles = n
most_at n t l at_facts = n
most_at n t l at_customers = n + t
most_at n t l at_fronts = n + t + l
most_at n t l at_pins = n + t + l
most_at n t l (at_bounds v d) = n + t + l

-- and how many asks: at most so many as a whole judgement makes, at least all that come before the dimension that is out of bounds
abbrev pub asks_at : ℕ → Stage → ℕ
asks_at m (at_bounds v d) = m
asks_at m _ = 0

abbrev pub asks_least_at : ℕ → List (List ℕ) → Changes → Stage → ℕ
asks_least_at dimensions routes changes (at_bounds v d) = asks_before dimensions routes changes v d
asks_least_at dimensions routes changes _ = 0

-- the least and the greatest number of asks for a reply
abbrev pub reply_asks_least : ℕ → List (List ℕ) → Changes → Reply → ℕ
reply_asks_least dimensions routes changes (Committed version) = judge_asks dimensions routes changes
reply_asks_least dimensions routes changes (Denied denial) = asks_least_at dimensions routes changes (stage_of denial)
reply_asks_least dimensions routes changes _ = 0

abbrev pub reply_asks : ℕ → Reply → ℕ
reply_asks n (Committed version) = n
reply_asks n (Denied denial) = asks_at n (stage_of denial)
reply_asks n _ = 0

-- the least and the greatest number of probes for a reply to a proposal
abbrev pub reply_probes_least : ℕ → ℕ → ℕ → Reply → ℕ
reply_probes_least n t l (Committed version) = n + t + l
reply_probes_least n t l (Denied denial) = least_at n t l (stage_of denial)
reply_probes_least n t l _ = 0

abbrev pub reply_probes : ℕ → ℕ → ℕ → Reply → ℕ
reply_probes n t l (Denied denial) = most_at n t l (stage_of denial)
reply_probes n t l _ = n + t + l

-- The work of a call that was answered: a proposal makes all its asks and probes where it is committed, and as many as its denial allows
-- where it is denied; every other call makes one probe.
abbrev pub IsWorkOf : Setting → PinState → List (List ℕ) → Call → Reply → Meter → Meter → Type 0
IsWorkOf s pins routes (Propose session base mv) reply old new =
    let asks = judge_asks (length s.dimensions) routes (changes_by routes mv) in
    let named = length (named_by mv) in
    let touched = length (touched_by routes mv) in
    let left = leaving_by pins routes mv in
    Works old new (reply_asks_least (length s.dimensions) routes (changes_by routes mv) reply) (reply_asks asks reply)
    (reply_probes_least named touched left reply) (reply_probes named touched left reply)
IsWorkOf s pins routes _ reply old new = WorksJust old new 0 1

-- the work of a call that was answered on what is held
abbrev pub IsWorkOn : Setting → HeldState → Call → Reply → Meter → Meter → Type 0
IsWorkOn s held call reply old new = IsWorkOf s held.pins held.plan.routes call reply old new

-- no more work than the call may cost on what is held
abbrev pub IsWithinCost : Setting → HeldState → Call → Meter → Meter → Type 0
IsWithinCost s held call old new = WorksAtMost old new (call_asks s held.plan.routes call) (call_probes held.pins held.plan.routes call)
