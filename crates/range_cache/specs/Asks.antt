-- How often judging new routes may ask.
use Rattle.std.specs.Prelude.{◌≡◌, ℕ, ◌+◌, ◌-◌, ◌*◌, ◌==◌, if◌then◌else◌, List, [], ◌∷◌, length, sum_by}
use Rattle.callback_store.specs.declared.meter.Meter.{Meter}
use Rattle.callback_store.specs.Meter.{AsksJust, AsksAtMost}
use Rattle.dimension_core.specs.Feasible.{FitsAll}
use Rattle.dimension_core.specs.Misses.{IsFirstMissIn}
use Rattle.dimension_core.specs.Setting.{Setting}
use Rattle.plan_core.specs.Front.{common_front}
use Rattle.plan_core.specs.Plan.{Changes, route_at}
use Rattle.range_cache.specs.declared.fault.JudgeFault.{JudgeFault}
use Rattle.range_cache.specs.declared.fault.JudgeFault.TheVariants.{Bound, NoMemory}

-- in one dimension: one ask for each customer after the longest common prefix of the old and the new route, and one for the return; none
-- where the new route is empty
abbrev pub walk_asks : List ℕ → List ℕ → ℕ
walk_asks old [] = 0
walk_asks old (c ∷ cs) = length (c ∷ cs) + 1 - common_front old (c ∷ cs)

-- in this many dimensions, for all new routes of a plan
abbrev pub judge_asks : ℕ → List (List ℕ) → Changes → ℕ
judge_asks dimensions routes changes = sum_by (λ c. dimensions * walk_asks (route_at routes c.0) c.1) changes

-- those of them that come before dimension d of the vehicle, from 1 on: all for the new routes before the vehicle's, and for its own those in
-- the dimensions before d
abbrev pub asks_before : ℕ → List (List ℕ) → Changes → ℕ → ℕ → ℕ
asks_before dimensions routes [] vehicle d = 0
asks_before dimensions routes (c ∷ cs) vehicle d =
    if c.0 == vehicle then (d - 1) * walk_asks (route_at routes c.0) c.1 else dimensions * walk_asks (route_at routes c.0) c.1 + asks_before dimensions routes cs vehicle d

-- at least these are made where the judgement ends with a fault
abbrev pub fault_asks : ℕ → List (List ℕ) → Changes → JudgeFault → ℕ
fault_asks dimensions routes changes (Bound vehicle d) = asks_before dimensions routes changes vehicle d
fault_asks dimensions routes changes NoMemory = 0

-- n asks are made for the vehicle's new route where it is out of bounds first in dimension d, from 1 on: all those in the dimensions before
-- it, and in it one for each stop after the longest common prefix, up to the first at which no cumul is left
abbrev pub IsAskedToMiss : Setting → List ℕ → ℕ → List ℕ → ℕ → ℕ → Type 0
IsAskedToMiss s old vehicle new d n =
    (k : ℕ) × IsFirstMissIn s (d - 1) vehicle new k × (n ≡ (d - 1) * walk_asks old new + (k - common_front old new))

-- n asks are made for new routes of a plan where the first of them that is out of bounds is so first in dimension d, from 1 on: all those for
-- the new routes before it, and for its own those up to the first stop at which no cumul is left
abbrev pub IsAskedTo : Setting → List (List ℕ) → Changes → ℕ → ℕ → Type 0
IsAskedTo s routes [] d n = ⊥
IsAskedTo s routes (c ∷ cs) d n =
    (¬ FitsAll s c.0 c.1 → IsAskedToMiss s (route_at routes c.0) c.0 c.1 d n)
    × (FitsAll s c.0 c.1 → (m : ℕ) × IsAskedTo s routes cs d m × (n ≡ length s.dimensions * walk_asks (route_at routes c.0) c.1 + m))

-- From the old meter to the new one exactly these asks are counted where the judgement ends with a bound. Where memory runs out they are at
-- most all.
abbrev pub AsksToFault : Setting → List (List ℕ) → Changes → Meter → Meter → JudgeFault → Type 0
AsksToFault s routes changes from to (Bound vehicle d) = (n : ℕ) × IsAskedTo s routes changes d n × AsksJust from to n
AsksToFault s routes changes from to NoMemory = AsksAtMost from to (judge_asks (length s.dimensions) routes changes)
