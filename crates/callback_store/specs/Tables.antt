use Rattle.std.specs.Prelude.{◌≡◌, ℕ, ◌+◌, ◌*◌, ◌/◌, ◌%◌, ◌<◌, ◌≤◌, Bool, true, false, ◌==◌, ◌&&◌, ◌||◌, nat_le, if◌then◌else◌, List, [], ◌∷◌, length, map, slice_index, slice_index_or}
use Rattle.std.specs.List.{range_with_len}
use Rattle.limits.specs.declared.TheConstants.{MOST_CALLBACKS, MOST_NODES}
use Rattle.callback_store.specs.declared.transit.Transit.{Transit}
use Rattle.callback_store.specs.declared.unary.Unary.{Unary}
use Rattle.callback_store.specs.declared.matrix.Matrix.{Matrix}
use Rattle.callback_store.specs.declared.vector.Vector.{Vector}
use Rattle.callback_store.specs.declared.stay_matrix.StayMatrix.{StayMatrix}
use Rattle.callback_store.specs.declared.slot.Slot.{Slot}
use Rattle.callback_store.specs.declared.slot.Slot.TheVariants.{Pair, Node, Listed, Values, Stayed}

-- The table of a callback: how many nodes it knows, whether it answers for pairs, and its answers.
pub record Table : Type 0 where
  pub size : ℕ
  pub paired : Bool
  pub entries : List ℕ

-- the answer on the way from a node to another; a one-node callback answers for the node that is left
abbrev pub entry : Table → ℕ → ℕ → ℕ
entry t i j = slice_index t.entries (if t.paired then i * t.size + j else i)

-- each two of so many nodes have one answer both ways
abbrev pub IsSymmetric : ℕ → Table → Type 0
IsSymmetric nodes t = (i j : ℕ) → i < nodes → j < nodes → entry t i j ≡ entry t j i

-- the entries of a one-node callback that answers by a function
abbrev pub node_values : ℕ → (ℕ → ℕ) → List ℕ
node_values size f = map f (range_with_len 0 size)

-- the entries of a two-node callback that answers by a function, row by row
abbrev pub pair_values : ℕ → (ℕ → ℕ → ℕ) → List ℕ
pair_values size f = map (λ k. f (k / size) (k % size)) (range_with_len 0 (size * size))

-- the table of a two-node callback
abbrev pub pair_table : {i : Type 0} {held : i → Type 0} {calls : _} → Transit i held calls → Table
pair_table transit = record { size = transit.size; paired = true; entries = transit.table.0 }

-- the table of a one-node callback
abbrev pub node_table : {i : Type 0} {held : i → Type 0} {calls : _} → Unary i held calls → Table
node_table unary = record { size = unary.size; paired = false; entries = unary.table.0 }

-- the table of a two-node callback that is given as its answers
abbrev pub matrix_table : Matrix → Table
matrix_table matrix = record { size = matrix.size; paired = true; entries = matrix.answers.value.items }

-- the table of a one-node callback that is given as its answers
abbrev pub vector_table : Vector → Table
vector_table vector = record { size = length vector.answers.items; paired = false; entries = vector.answers.items }

-- the table of a two-node callback that is given as stays and ways: on a way it has the stay at the node that is left and the way
abbrev pub stay_values : List ℕ → Matrix → Table
stay_values stays ways = record {
  size = ways.size;
  paired = true;
  entries = pair_values ways.size (λ i j. slice_index stays i + entry (matrix_table ways) i j);
}

abbrev pub stay_table : StayMatrix → Table
stay_table matrix = stay_values matrix.stays.items matrix.ways

-- the table of any
abbrev pub slot_table : {i j : Type 0} {held : i → Type 0} {holds : j → Type 0} {calls : _} {asks : _} → Slot i j held holds calls asks → Table
slot_table (Pair transit) = pair_table transit
slot_table (Node unary) = node_table unary
slot_table (Listed matrix) = matrix_table matrix
slot_table (Values vector) = vector_table vector
slot_table (Stayed matrix) = stay_table matrix

-- how many nodes the first of some tables knows, and 0 where there is none
abbrev pub nodes_of : List Table → ℕ
nodes_of [] = 0
nodes_of (t ∷ ts) = t.size

-- no table, for a number at which there is none
abbrev pub no_table : Table
no_table = record { size = 0; paired = false; entries = [] }

-- the table at a number
abbrev pub table_at : List Table → ℕ → Table
table_at ts id = slice_index_or ts id no_table

-- what the tables of a registry keep: each knows as many nodes as the first, 2 to 1,001, and there are at most 16
pub record AreTables (ts : List Table) : Type 0 where
  pub same : (k : ℕ) → k < length ts → (table_at ts k).size ≡ nodes_of ts
  pub low : 0 < length ts → 2 ≤ nodes_of ts
  pub high : nodes_of ts ≤ MOST_NODES
  pub few : length ts ≤ MOST_CALLBACKS

-- whether a callback for this many nodes may join some tables
abbrev pub is_fitting : List Table → ℕ → Bool
is_fitting ts size = nat_le 2 size && nat_le size MOST_NODES && (length ts == 0 || nodes_of ts == size)
