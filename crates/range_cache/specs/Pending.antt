-- What is judged and not yet taken.
use Rattle.std.specs.Prelude.{◌≡◌, ℕ, ◌-◌, ◌≤◌, List, [], ◌∷◌, length, slice_set, All}
use Rattle.dimension_core.specs.NewRoutes.{Changes, IsOut}
use Rattle.dimension_core.specs.Setting.{Setting}
use Rattle.range_cache.specs.Cache.{RowState, CacheState, IsRowOf}
use Rattle.range_cache.specs.declared.fault.JudgeFault.{JudgeFault}
use Rattle.range_cache.specs.declared.fault.JudgeFault.TheVariants.{Bound, NoMemory}

-- new rows, each for a vehicle
abbrev pub NewRows : Type 0
NewRows = List (ℕ × RowState)

-- the cache that was judged on, and the new rows of the named vehicles
pub record PendingState : Type 0 where
  pub of : CacheState
  pub rows : NewRows

-- each row is for a vehicle of the cache
abbrev pub AreWithin : CacheState → NewRows → Type 0
AreWithin cache rows = All (λ r. (1 ≤ r.0) × (r.0 ≤ length cache.rows)) rows

-- the new rows are those of the new routes, one by one
abbrev pub AreNewRows : Setting → Changes → NewRows → Type 0
AreNewRows s [] [] = Unit {0}
AreNewRows s (c ∷ cs) (r ∷ rs) = ((1 ≤ c.0) × (c.0 ≤ s.vehicles) × (r.0 ≡ c.0) × IsRowOf s c.0 c.1 r.1) × AreNewRows s cs rs
AreNewRows s [] (r ∷ rs) = ⊥
AreNewRows s (c ∷ cs) [] = ⊥

-- the rows after each named vehicle got its new one
abbrev pub with_rows : NewRows → List RowState → List RowState
with_rows [] rows = rows
with_rows (r ∷ rs) rows = with_rows rs (slice_set rows (r.0 - 1) r.1)

-- A fault of judging new routes: the first of them that is out of bounds, and the first dimension in which it is. Running out of memory may
-- happen at any time.
abbrev pub IsJudgeFault : Setting → Changes → JudgeFault → Type 0
IsJudgeFault s changes (Bound vehicle d) = IsOut s changes vehicle d
IsJudgeFault s changes NoMemory = Unit {0}
