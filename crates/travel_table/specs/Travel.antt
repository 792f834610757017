use Rattle.std.specs.Prelude.{◌≡◌, ℕ, ◌+◌, ◌*◌, ◌<◌, ◌≤◌, List, length, slice_index, slice_index_or}
use Rattle.std.specs.Int.{abs_diff}
use Rattle.limits.specs.declared.TheConstants.{LARGEST_FIELD, LONGEST_TRAVEL}
use Rattle.solomon_reader.specs.declared.instance.Node.{Node}
use Rattle.travel_table.specs.Root.{IsRoot, root_of}
use Rattle.travel_table.specs.declared.travel.Point.{Point}

-- the node at a number, and one at the origin where there is none
abbrev pub node_at : List Node → ℕ → Node
node_at nodes i = slice_index_or nodes i (record { x = 0; y = 0; demand = 0; ready = 0; due = 0; service = 0 })

-- how far two nodes are apart, squared, in hundredths of a squared unit: the square of tenths
abbrev pub square_between : Node → Node → ℕ
square_between a b = 100 * (abs_diff a.x b.x * abs_diff a.x b.x + abs_diff a.y b.y * abs_diff a.y b.y)

-- the travel between two nodes: the greatest whole number of tenths that is at most the straight way
abbrev pub travel_between : Node → Node → ℕ
travel_between a b = root_of (square_between a b)

-- t is the travel from node i to node j: the greatest whole number of tenths that is at most the straight way
abbrev pub IsTravel : List Node → ℕ → ℕ → ℕ → Type 0
IsTravel nodes i j t = IsRoot (square_between (node_at nodes i) (node_at nodes j)) t

-- a table of numbers for ordered pairs: how many nodes it knows, and its numbers, row by row
pub record Distances : Type 0 where
  pub size : ℕ
  pub entries : List ℕ

-- the number for a pair
abbrev pub travel_at : Distances → ℕ → ℕ → ℕ
travel_at d i j = slice_index d.entries (i * d.size + j)

-- what every table of travel keeps
pub record AreDistances (d : Distances) : Type 0 where
  pub square : length d.entries ≡ d.size * d.size
  pub small : (k : ℕ) → k < length d.entries → slice_index d.entries k ≤ LONGEST_TRAVEL

-- the table has the travel between any two of the nodes
pub record IsTravelOf (nodes : List Node) (d : Distances) : Type 0 where
  pub sized : d.size ≡ length nodes
  pub travel : (i j : ℕ) → i < length nodes → j < length nodes → IsTravel nodes i j (travel_at d i j)
  pub small : (i j : ℕ) → i < length nodes → j < length nodes → travel_at d i j ≤ LONGEST_TRAVEL

-- no coordinate is above 9,999,999
pub record IsNear (node : Node) : Type 0 where
  pub x : node.x ≤ LARGEST_FIELD
  pub y : node.y ≤ LARGEST_FIELD

-- where a node is
abbrev pub point_of : Node → Point
point_of node = record { x = node.x; y = node.y }

-- no coordinate is above 9,999,999
pub record IsNearPoint (point : Point) : Type 0 where
  pub x : point.x ≤ LARGEST_FIELD
  pub y : point.y ≤ LARGEST_FIELD

-- the point at a number, and the origin where there is none
abbrev pub point_at : List Point → ℕ → Point
point_at points i = slice_index_or points i (record { x = 0; y = 0 })

-- how far two points are apart, squared, in hundredths of a squared unit
abbrev pub square_apart : Point → Point → ℕ
square_apart a b = 100 * (abs_diff a.x b.x * abs_diff a.x b.x + abs_diff a.y b.y * abs_diff a.y b.y)

-- t is the way from point i to point j: the greatest whole number that is at most the straight way
abbrev pub IsWay : List Point → ℕ → ℕ → ℕ → Type 0
IsWay points i j t = IsRoot (square_apart (point_at points i) (point_at points j)) t

-- Each pair of a point and itself or a later one, in the order of the rows, up to this many entries, has its way both ways.
pub record AreKnown (points : List Point) (entries : List ℕ) (count : ℕ) : Type 0 where
  pub counted : length entries ≡ length points * length points
  pub small : (k : ℕ) → k < length entries → slice_index entries k ≤ LONGEST_TRAVEL
  pub own : (a : ℕ) → a < length points → a * length points + a < count → slice_index entries (a * length points + a) ≡ 0
  pub there : (a b : ℕ) → a < b → b < length points → a * length points + b < count → IsWay points a b (slice_index entries (a * length points + b))
  pub back : (a b : ℕ) → a < b → b < length points → a * length points + b < count → IsWay points a b (slice_index entries (b * length points + a))
