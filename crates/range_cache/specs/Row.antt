-- Why a vehicle has no row for a new route.
use Rattle.std.specs.Prelude.{◌≡◌, ℕ, ◌-◌, ◌*◌, List, length}
use Rattle.callback_store.specs.declared.meter.Meter.{Meter}
use Rattle.callback_store.specs.Meter.{AsksJust, AsksAtMost}
use Rattle.dimension_core.specs.Feasible.{IsFirstOut}
use Rattle.dimension_core.specs.Setting.{Setting}
use Rattle.range_cache.specs.Asks.{walk_asks, IsAskedToMiss}
use Rattle.range_cache.specs.declared.fault.JudgeFault.{JudgeFault}
use Rattle.range_cache.specs.declared.fault.JudgeFault.TheVariants.{Bound, NoMemory}

-- the first dimension in which the route is out of bounds, or running out of memory
abbrev pub IsRowFault : Setting → ℕ → List ℕ → JudgeFault → Type 0
IsRowFault s vehicle route (Bound v d) = (v ≡ vehicle) × IsFirstOut s vehicle route d
IsRowFault s vehicle route NoMemory = Unit {0}

-- at least this many asks are made where it has none, by those of one dimension
abbrev pub row_asks : ℕ → JudgeFault → ℕ
row_asks each (Bound v d) = (d - 1) * each
row_asks each NoMemory = 0

-- From the old meter to the new one, where the vehicle has no row for its new route: at a bound exactly the asks up to the first stop at which
-- no cumul is left are counted. Where memory runs out they are at most those of all dimensions.
abbrev pub AsksToRowFault : Setting → List ℕ → ℕ → List ℕ → Meter → Meter → JudgeFault → Type 0
AsksToRowFault s old vehicle new from to (Bound v d) = (n : ℕ) × IsAskedToMiss s old vehicle new d n × AsksJust from to n
AsksToRowFault s old vehicle new from to NoMemory = AsksAtMost from to (length s.dimensions * walk_asks old new)
