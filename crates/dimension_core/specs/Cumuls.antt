use Rattle.std.specs.Prelude.{◌≡◌, ℕ, ◌+◌, ◌-◌, ◌<◌, ◌≤◌, ◌⊎◌, Bool, true, List, [], ◌∷◌, ◌++◌, length, slice_index, slice_index_or, Option, Some, None, IfSome, not, ◌==◌, ◌&&◌, nat_lt, nat_le, if◌then◌else◌}
use Rattle.std.specs.List.{list_all}
use Rattle.limits.specs.declared.TheConstants.{LARGEST_CUMUL, MOST_NODES, MOST_VEHICLES}
use Rattle.callback_store.specs.Tables.{Table, entry, nodes_of, table_at}
use Rattle.dimension_core.specs.declared.range.Range.{Range}
use Rattle.dimension_core.specs.declared.dimension.DimensionFault.{DimensionFault}
use Rattle.dimension_core.specs.declared.dimension.DimensionFault.TheVariants.{NoTransit, Size, Range as OutOfRange}

-- A dimension: the number of its callback, the greatest slack, the capacity of each vehicle (the first is that of vehicle 1),
-- whether the first cumul is 0, and a range for each node.
pub record Bounds : Type 0 where
  pub id : ℕ
  pub slack_max : ℕ
  pub caps : List ℕ
  pub fixed : Bool
  pub ranges : List Range

-- the capacity of a vehicle
abbrev pub cap_of : Bounds → ℕ → ℕ
cap_of d vehicle = slice_index d.caps (vehicle - 1)

-- the range of a node
abbrev pub range_of : Bounds → ℕ → Range
range_of d node = slice_index_or d.ranges node (record { lo = 0; hi = 0 })

-- x lies in the node's range, and is at most the vehicle's capacity
pub record IsCumul (d : Bounds) (vehicle node x : ℕ) : Type 0 where
  pub low : (range_of d node).lo ≤ x
  pub high : x ≤ (range_of d node).hi
  pub capped : x ≤ cap_of d vehicle

-- a route may begin with x at the depot
pub record IsStart (d : Bounds) (vehicle x : ℕ) : Type 0 where
  pub cumul : IsCumul d vehicle 0 x
  pub zeroed : d.fixed ≡ true → x ≡ 0

-- after x at node i may come y at node j: the way takes the transit, and a slack of at most slack_max
pub record IsStep (t : Table) (d : Bounds) (vehicle i x j y : ℕ) : Type 0 where
  pub cumul : IsCumul d vehicle j y
  pub slack : x + entry t i j ≤ y
  pub within : y ≤ x + entry t i j + d.slack_max

-- after x at node i may come these cumuls at these nodes, one for each
abbrev pub GoOn : Table → Bounds → ℕ → ℕ → ℕ → List ℕ → List ℕ → Type 0
GoOn t d vehicle i x [] [] = Unit {0}
GoOn t d vehicle i x (j ∷ js) (y ∷ ys) = IsStep t d vehicle i x j y × GoOn t d vehicle j y js ys
GoOn t d vehicle i x [] (y ∷ ys) = ⊥
GoOn t d vehicle i x (j ∷ js) [] = ⊥

-- these are cumuls for the depot and then these nodes, one for each
abbrev pub AreCumuls : Table → Bounds → ℕ → List ℕ → List ℕ → Type 0
AreCumuls t d vehicle nodes [] = ⊥
AreCumuls t d vehicle nodes (x ∷ xs) = IsStart d vehicle x × GoOn t d vehicle 0 x nodes xs

-- The same by places: a cumul for each stop, a start at the first, and a step between any two neighbours. The stops are the depot and then
-- these nodes.
pub record AreCumulsByPlace (t : Table) (d : Bounds) (vehicle : ℕ) (nodes cumuls : List ℕ) : Type 0 where
  pub sized : length cumuls ≡ length nodes + 1
  pub start : IsStart d vehicle (slice_index cumuls 0)
  pub steps : (k : ℕ) → k < length nodes
      → IsStep t d vehicle (slice_index (0 ∷ nodes) k) (slice_index cumuls k) (slice_index (0 ∷ nodes) (k + 1)) (slice_index cumuls (k + 1))

-- The route is empty, or there are cumuls for the depot, its customers and the depot. (Here and below it is said that there are cumuls, and
-- not which, so that the fact has at most one proof, and a ghost field can state it.)
abbrev pub IsInBounds : Table → Bounds → ℕ → List ℕ → Type 0
IsInBounds t d vehicle route = ∥ (route ≡ []) ⊎ ((cumuls : List ℕ) × AreCumuls t d vehicle (route ++ 0 ∷ []) cumuls) ∥₁

-- how many answers the cumuls or the cost of a route take: one for each customer and one for the return, and none where the route is empty
abbrev pub route_asks : List ℕ → ℕ
route_asks [] = 0
route_asks (c ∷ cs) = length (c ∷ cs) + 1

-- the last of some numbers, or n where there is none
abbrev pub last_of : ℕ → List ℕ → ℕ
last_of n [] = n
last_of n (m ∷ ms) = last_of m ms

-- y is the last of some cumuls for the depot and then these nodes
abbrev pub Reaches : Table → Bounds → ℕ → List ℕ → ℕ → Type 0
Reaches t d vehicle nodes y = ∥ ((cumuls : List ℕ) × AreCumuls t d vehicle nodes cumuls × (last_of 0 cumuls ≡ y)) ∥₁

-- y is the least last cumul
pub record IsEarly (t : Table) (d : Bounds) (vehicle : ℕ) (nodes : List ℕ) (y : ℕ) : Type 0 where
  pub reached : Reaches t d vehicle nodes y
  pub least : (z : ℕ) → Reaches t d vehicle nodes z → y ≤ z

-- a number of an interval, if there is one
abbrev pub IsWithin : Option Range → ℕ → Type 0
IsWithin None x = ⊥
IsWithin (Some r) x = (r.lo ≤ x) × (x ≤ r.hi)

-- the numbers with P are exactly those of an interval that is not empty; or there are none, and then there is no interval
pub record IsSpan (o : Option Range) (P : ℕ → Type 0) : Type 0 where
  pub filled : IfSome o (λ r. r.lo ≤ r.hi)
  pub inside : (x : ℕ) → IsWithin o x → P x
  pub all : (x : ℕ) → P x → IsWithin o x

-- some tables serve a dimension: its callback is among them, and they know as many nodes
pub record IsServed (ts : List Table) (d : Bounds) : Type 0 where
  pub registered : d.id < length ts
  pub sized : nodes_of ts ≡ length d.ranges

-- the table of a dimension
abbrev pub table_of : List Table → Bounds → Table
table_of ts d = table_at ts d.id

-- what is known of every dimension
pub record AreBounds (d : Bounds) : Type 0 where
  pub some_cap : 1 ≤ length d.caps
  pub few_caps : length d.caps ≤ MOST_VEHICLES
  pub some_node : 2 ≤ length d.ranges
  pub few_nodes : length d.ranges ≤ MOST_NODES
  pub slack : d.slack_max ≤ LARGEST_CUMUL
  pub caps : (k : ℕ) → k < length d.caps → slice_index d.caps k ≤ LARGEST_CUMUL
  pub ranges : (k : ℕ) → k < length d.ranges → ((range_of d k).lo ≤ (range_of d k).hi) × ((range_of d k).hi ≤ LARGEST_CUMUL)

-- whether there are 1 to 1,000 capacities, and a range for each node of the tables
abbrev pub is_sized : List Table → List ℕ → List Range → Bool
is_sized ts caps ranges = nat_le 1 (length caps) && nat_le (length caps) MOST_VEHICLES && (length ranges == nodes_of ts)

-- whether no capacity is above 1,000,000,000,000
abbrev pub are_caps : List ℕ → Bool
are_caps caps = list_all (λ cap. nat_le cap LARGEST_CUMUL) caps

-- whether no range is empty, and none ends above 1,000,000,000,000
abbrev pub are_ranges : List Range → Bool
are_ranges ranges = list_all (λ range. nat_le range.lo range.hi && nat_le range.hi LARGEST_CUMUL) ranges

-- whether no range is empty, and no number above 1,000,000,000,000
abbrev pub is_in_range : ℕ → List ℕ → List Range → Bool
is_in_range slack_max caps ranges =
    nat_le slack_max LARGEST_CUMUL
    && are_caps caps
    && are_ranges ranges

-- the first reason to refuse a dimension
abbrev pub dimension_refusal : List Table → ℕ → ℕ → List ℕ → List Range → Option DimensionFault
dimension_refusal ts id slack_max caps ranges =
    if not (nat_lt id (length ts)) then Some NoTransit
    else if not (is_sized ts caps ranges) then Some Size
    else if not (is_in_range slack_max caps ranges) then Some OutOfRange
    else None
