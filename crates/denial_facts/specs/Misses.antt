-- Where a route first leaves the bounds of a dimension.
use Rattle.std.specs.Prelude.{◌≡◌, ℕ, ◌+◌, ◌<◌, ◌≤◌, ◌⊎◌, max, min, List, [], ◌∷◌, ◌++◌, length, take, slice_index}
use Rattle.callback_store.specs.Tables.{Table, entry}
use Rattle.dimension_core.specs.Cumuls.{Bounds, IsStart, IsEarly, Reaches, cap_of, last_of, range_of}
use Rattle.denial_facts.specs.declared.miss.Miss.{Miss}
use Rattle.denial_facts.specs.declared.miss.Miss.TheVariants as misses

-- the stops of a route after its start: its customers, and the depot
abbrev pub stops_of : List ℕ → List ℕ
stops_of route = route ++ 0 ∷ []

-- the least value at node j after x at node i, whatever the upper bounds are
abbrev pub least_after : Table → Bounds → ℕ → ℕ → ℕ → ℕ
least_after t d i x j = max (x + entry t i j) (range_of d j).lo

-- the greatest value that a node and a vehicle allow
abbrev pub most_at : Bounds → ℕ → ℕ → ℕ
most_at d vehicle j = min (range_of d j).hi (cap_of d vehicle)

-- No slack is needed to wait at node j, or there is as much as may ever be needed.
abbrev pub MayWait : Bounds → ℕ → ℕ → Type 0
MayWait d vehicle j = ((range_of d j).lo ≤ d.slack_max) ⊎ (most_at d vehicle j ≤ d.slack_max)

-- The first stop that has no cumul: those before it have some, and the last of these is at least `early`. The least value at the stop comes after
-- that one. Where the vehicle may wait for as long as it must, it is above the greatest that is allowed.
pub record IsFirstMiss (t : Table) (d : Bounds) (vehicle : ℕ) (stops : List ℕ) (stop least most : ℕ) : Type 0 where
  pub within : stop < length stops
  pub none : (y : ℕ) → Reaches t d vehicle (take (stop + 1) stops) y → ⊥
  pub before : ℕ
  pub early : IsEarly t d vehicle (take stop stops) before
  pub least_is : least ≡ least_after t d (last_of 0 (take stop stops)) before (slice_index stops stop)
  pub most_is : most ≡ most_at d vehicle (slice_index stops stop)
  pub over : MayWait d vehicle (slice_index stops stop) → most < least

-- where a route first has no cumul: at the start, or at a stop
abbrev pub IsMiss : Table → Bounds → ℕ → List ℕ → Miss → Type 0
IsMiss t d vehicle route misses.Start = (x : ℕ) → IsStart d vehicle x → ⊥
IsMiss t d vehicle route (misses.Stop stop least most) = IsFirstMiss t d vehicle (stops_of route) stop least most
