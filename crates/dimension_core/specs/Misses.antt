-- How far a walk along a route comes: to the first stop at which no cumul is left.
use Rattle.std.specs.Prelude.{◌≡◌, ℕ, ◌+◌, ◌<◌, ◌≤◌, List, [], ◌∷◌, ◌++◌, length, take, Some, None}
use Rattle.callback_store.specs.Tables.{Table}
use Rattle.dimension_core.specs.declared.range.Range.{Range}
use Rattle.dimension_core.specs.Cumuls.{Bounds, AreCumuls, IsSpan, Reaches, table_of}
use Rattle.dimension_core.specs.Setting.{Setting, dimension_at}

-- there are cumuls for the depot and then these nodes
abbrev pub HasCumuls : Table → Bounds → ℕ → List ℕ → Type 0
HasCumuls t d vehicle nodes = ∥ ((cumuls : List ℕ) × AreCumuls t d vehicle nodes cumuls) ∥₁

-- the first k of these nodes have no cumuls, and any fewer of them have
pub record IsFirstMiss (t : Table) (d : Bounds) (vehicle : ℕ) (nodes : List ℕ) (k : ℕ) : Type 0 where
  pub within : k ≤ length nodes
  pub missed : ¬ HasCumuls t d vehicle (take k nodes)
  pub before : (n : ℕ) → n < k → HasCumuls t d vehicle (take n nodes)

-- the same for the stops of a route, its customers and then the depot, in the dimension at place d, from 0 on
abbrev pub IsFirstMissIn : Setting → ℕ → ℕ → List ℕ → ℕ → Type 0
IsFirstMissIn s d vehicle route k = IsFirstMiss (table_of s.tables (dimension_at s d)) (dimension_at s d) vehicle (route ++ 0 ∷ []) k

-- How a walk finds it: there is no span at the depot (`start`), or there is none after one more node (`next`). There is one at most (`one`).
pub record MissesAreFound : Type 0 where
  pub start : (t : Table) (d : Bounds) (vehicle : ℕ) (nodes : List ℕ) → IsSpan None (Reaches t d vehicle []) → IsFirstMiss t d vehicle nodes 0
  pub next : (t : Table) (d : Bounds) (vehicle : ℕ) (nodes : List ℕ) (k : ℕ) (range : Range) → k < length nodes
      → IsSpan (Some range) (Reaches t d vehicle (take k nodes)) → IsSpan None (Reaches t d vehicle (take (k + 1) nodes)) → IsFirstMiss t d vehicle nodes (k + 1)
  pub one : (t : Table) (d : Bounds) (vehicle : ℕ) (nodes : List ℕ) (j k : ℕ) → IsFirstMiss t d vehicle nodes j → IsFirstMiss t d vehicle nodes k → j ≡ k
