-- An instance, and the lines that describe it.
use Rattle.std.specs.Prelude.{◌≡◌, ℕ, ◌+◌, ◌≤◌, List, [], ◌∷◌, length, get_or, All, codes, string_bytes}
use Rattle.std.specs.List.{AllZip}
use Rattle.limits.specs.declared.TheConstants.{LARGEST_FIELD, MOST_NODES, MOST_VEHICLES}
use Rattle.text_words.specs.Words.{words}
use Rattle.solomon_reader.specs.Cuts.{Numbered}
use Rattle.solomon_reader.specs.Fields.{IsNumber, IsKeyword, IsTrimmed, IsName}
use Rattle.solomon_reader.specs.declared.instance.Instance.{Instance}
use Rattle.solomon_reader.specs.declared.instance.Node.{Node}

-- an instance, without saying where it lies in memory
pub record Plain : Type 0 where
  pub name : List ℕ
  pub vehicles : ℕ
  pub capacity : ℕ
  pub nodes : List Node

abbrev pub view : Instance → Plain
view i = record { name = string_bytes i.name; vehicles = i.vehicles; capacity = i.capacity; nodes = i.nodes.items }

-- ---- the lines of an instance

-- the seven fields of a node row are these numbers
abbrev pub IsRow : ℕ → Node → List (List ℕ) → Type 0
IsRow place node fields = AllZip IsNumber fields (place ∷ node.x ∷ node.y ∷ node.demand ∷ node.ready ∷ node.due ∷ node.service ∷ [])

-- the rows are the nodes in order, after this many others
abbrev pub AreRows : ℕ → List Numbered → List Node → Type 0
AreRows count [] [] = Unit {0}
AreRows count (line ∷ lines) (node ∷ nodes) = IsRow count node (words line.text) × (node.ready ≤ node.due) × (count ≡ 0 → node.demand ≡ 0) × AreRows (count + 1) lines nodes
AreRows count [] (node ∷ nodes) = ⊥
AreRows count (line ∷ lines) [] = ⊥

-- the first field is the keyword
abbrev pub BeginsWith : List ℕ → List (List ℕ) → Type 0
BeginsWith keyword fields = (word : List ℕ) × (more : List (List ℕ)) × (fields ≡ word ∷ more) × IsKeyword keyword word

-- the lines are the parts of the instance, in order
pub record IsInstance (lines : List Numbered) (i : Plain) : Type 0 where
  pub name_line : Numbered
  pub vehicle_line : Numbered
  pub fleet_heading : Numbered
  pub fleet_line : Numbered
  pub customer_line : Numbered
  pub node_heading : Numbered
  pub rows : List Numbered
  pub whole : lines ≡ name_line ∷ vehicle_line ∷ fleet_heading ∷ fleet_line ∷ customer_line ∷ node_heading ∷ rows
  pub trimmed_name : IsTrimmed name_line.text i.name
  pub name : IsName i.name
  pub vehicle : AllZip IsKeyword (codes "VEHICLE" ∷ []) (words vehicle_line.text)
  pub fleet_words : AllZip IsKeyword (codes "NUMBER" ∷ codes "CAPACITY" ∷ []) (words fleet_heading.text)
  pub fleet : AllZip IsNumber (words fleet_line.text) (i.vehicles ∷ i.capacity ∷ [])
  pub some_vehicles : 1 ≤ i.vehicles
  pub few_vehicles : i.vehicles ≤ MOST_VEHICLES
  pub customer : AllZip IsKeyword (codes "CUSTOMER" ∷ []) (words customer_line.text)
  pub heading : BeginsWith (codes "CUST") (words node_heading.text)
  pub nodes : AreRows 0 rows i.nodes
  pub some_nodes : 2 ≤ length i.nodes
  pub few_nodes : length i.nodes ≤ MOST_NODES

-- ---- what every instance keeps

-- numbers of at most seven digits, and a window that is not empty
pub record IsNode (n : Node) : Type 0 where
  pub x : n.x ≤ LARGEST_FIELD
  pub y : n.y ≤ LARGEST_FIELD
  pub demand : n.demand ≤ LARGEST_FIELD
  pub ready : n.ready ≤ n.due
  pub due : n.due ≤ LARGEST_FIELD
  pub service : n.service ≤ LARGEST_FIELD

-- the sizes that the format allows, and a depot without demand
pub record IsSound (i : Plain) : Type 0 where
  pub some_vehicles : 1 ≤ i.vehicles
  pub few_vehicles : i.vehicles ≤ MOST_VEHICLES
  pub capacity : i.capacity ≤ LARGEST_FIELD
  pub some_nodes : 2 ≤ length i.nodes
  pub few_nodes : length i.nodes ≤ MOST_NODES
  pub nodes : All IsNode i.nodes
  pub depot : (d : Node) → (get_or i.nodes 0 d).demand ≡ 0
