-- An instance, and the travel between its nodes.
use Rattle.std.specs.Prelude.{ℕ, ◌+◌, ◌*◌, ◌≤◌, List, length, All}
use Rattle.limits.specs.declared.TheConstants.{LARGEST_FIELD, MOST_NODES, MOST_VEHICLES}
use Rattle.solomon_reader.specs.declared.instance.Node.{Node}
use Rattle.solomon_reader.specs.Instances.{IsNode}
use Rattle.travel_table.specs.Travel.{node_at, travel_between}

-- the name, the fleet and the nodes; node 0 is the depot
pub record Places : Type 0 where
  pub name : List ℕ
  pub vehicles : ℕ
  pub capacity : ℕ
  pub nodes : List Node

-- what is kept: the numbers are those of an instance
pub record ArePlaces (p : Places) : Type 0 where
  pub some_vehicles : 1 ≤ p.vehicles
  pub few_vehicles : p.vehicles ≤ MOST_VEHICLES
  pub capacity : p.capacity ≤ LARGEST_FIELD
  pub some_nodes : 2 ≤ length p.nodes
  pub few_nodes : length p.nodes ≤ MOST_NODES
  pub nodes : All IsNode p.nodes

-- the travel from a node to another, in tenths
abbrev pub travel_of : Places → ℕ → ℕ → ℕ
travel_of p i j = travel_between (node_at p.nodes i) (node_at p.nodes j)

-- the time from the start of service at a node to the arrival at the next, in tenths: the service there, and the travel
abbrev pub time_between : Places → ℕ → ℕ → ℕ
time_between p i j = (node_at p.nodes i).service * 10 + travel_of p i j
