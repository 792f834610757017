use Rattle.std.specs.Prelude.{◌≡◌, ◌≤◌, ◌<◌, ℕ, ◌+◌, ◌-◌, ◌*◌, ◌==◌, if◌then◌else◌, List, [], ◌∷◌, ◌++◌, length, slice_index, take, drop, All, Bool}
use Rattle.limits.specs.declared.TheConstants.{MOST_STOPS}
use Rattle.plan_core.specs.Plan.{route_at}
use Rattle.callback_store.specs.Tables.{Table, entry}
use Rattle.plan_core.specs.Cost.{way}

-- what the way from a stop to the next one costs; a vehicle that stays at the depot drives no way
abbrev pub hop : Table → ℕ → ℕ → ℕ
hop t i j = if j == 0 then (if i == 0 then 0 else entry t i j) else entry t i j

-- the stops of a route after its start: its customers, the depot
abbrev pub stops : List ℕ → List ℕ
stops r = r ++ 0 ∷ []

-- the stop at a place: the depot at 0, then the customers, then the depot again
abbrev pub stop_at : List ℕ → ℕ → ℕ
stop_at r place = slice_index (0 ∷ stops r) place

-- these are the stops of a vehicle in some routes
pub record AreStops (customers : ℕ) (routes : List (List ℕ)) (v : ℕ) (all : List ℕ) : Type 0 where
  pub low : 1 ≤ v
  pub high : v ≤ length routes
  pub is : all ≡ 0 ∷ stops (route_at routes v)
  pub sized : length all ≡ length (route_at routes v) + 2
  pub short : length all ≤ MOST_STOPS
  pub known : All (λ c. c ≤ customers) all

-- the ways between stops, driven back
abbrev pub turned : (ℕ → ℕ → ℕ) → ℕ → ℕ → ℕ
turned f i j = f j i

-- what the first k ways of a route's stops cost, the start among them
abbrev pub along : (ℕ → ℕ → ℕ) → List ℕ → ℕ → ℕ
along f A k = way f 0 (take k (drop 1 A))

-- what a way costs, as it is driven or driven back
abbrev pub hop_by : Bool → Table → ℕ → ℕ → ℕ
hop_by turned t i j = if turned then hop t j i else hop t i j

-- what a callback answers on a way, as it is driven or driven back
abbrev pub entry_by : Bool → Table → ℕ → ℕ → ℕ
entry_by turned t i j = if turned then entry t j i else entry t i j

-- the ways from some stops to others, row by row, or back, from a row and a column on, without the last ones where these are the first
pub record AreHopsFrom (turned : Bool) (t : Table) (from to : List ℕ) (row column : ℕ) (cells : List ℕ) : Type 0 where
  pub counted : length cells ≡ length from * length to
  pub hops : (a b : ℕ) → row ≤ a → a + 1 < length from + row → column ≤ b → b + 1 < length to + column
      → slice_index cells (a * length to + b) ≡ hop_by turned t (slice_index from a) (slice_index to b)

-- the column of such a table that has no ways: the last one, or the first one
abbrev pub spare_of : ℕ → List ℕ → ℕ
spare_of column to = if column == 0 then length to - 1 else 0

-- there each row has a number that none of its ways is below
abbrev pub AreFloors : List ℕ → List ℕ → ℕ → ℕ → List ℕ → Type 0
AreFloors from to row column cells = (a b : ℕ) → row ≤ a → a + 1 < length from + row → column ≤ b → b + 1 < length to + column
    → slice_index cells (a * length to + spare_of column to) ≤ slice_index cells (a * length to + b)

-- the ways from each stop to the next
pub record AreEdges (t : Table) (stops : List ℕ) (edges : List ℕ) : Type 0 where
  pub counted : length edges + 1 ≡ length stops
  pub hops : (k : ℕ) → k < length edges → slice_index edges k ≡ hop t (slice_index stops k) (slice_index stops (k + 1))

-- the ways over the first k stops, or back, without the first of these ways, for each k from 1 on
pub record AreSums (turned : Bool) (t : Table) (stops : List ℕ) (n : ℕ) (cells : List ℕ) : Type 0 where
  pub counted : length cells ≡ n
  pub sums : (k : ℕ) → 1 ≤ k → k < n → slice_index cells k + hop_by turned t (slice_index stops 0) (slice_index stops 1) ≡ along (hop_by turned t) stops k

-- the first n rows of a square table, turned, without its first row and its last column
pub record IsTurned (w n : ℕ) (cells back : List ℕ) : Type 0 where
  pub whole : length back ≡ w * w
  pub turned : (a b : ℕ) → 1 ≤ a → a < n → b + 1 < w → slice_index back (a * w + b) ≡ slice_index cells (b * w + a)
