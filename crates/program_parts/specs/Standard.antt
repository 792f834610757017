-- The setting of the board that an instance opens.
use Rattle.std.specs.Prelude.{◌≡◌, ◌-◌, List, [], ◌∷◌, length, true, false}
use Rattle.limits.specs.declared.TheConstants.{MOST_PROGRAM_EVENTS}
use Rattle.callback_store.specs.Tables.{Table, node_values, pair_values}
use Rattle.dimension_core.specs.Setting.{Setting}
use Rattle.solomon_reader.specs.Instances.{Plain}
use Rattle.travel_table.specs.Travel.{travel_at}
use Rattle.program_parts.specs.Network.{Sites, IsNetwork, demand_at, time_between}
use Rattle.program_parts.specs.Pair.{load_bounds, time_bounds}

-- an instance's fleet and nodes, and the travel between them
pub record AreSitesOf (i : Plain) (s : Sites) : Type 0 where
  pub vehicles : s.vehicles ≡ i.vehicles
  pub capacity : s.capacity ≡ i.capacity
  pub nodes : s.nodes ≡ i.nodes
  pub network : IsNetwork s

-- callback 0 is the demand of the node that is left, 1 its service and the travel, 2 the travel alone
abbrev pub standard_tables : Sites → List Table
standard_tables s =
    record { size = length s.nodes; paired = false; entries = node_values (length s.nodes) (demand_at s) }
    ∷ record { size = length s.nodes; paired = true; entries = pair_values (length s.nodes) (time_between s) }
    ∷ record { size = length s.nodes; paired = true; entries = pair_values (length s.nodes) (travel_at s.travel) } ∷ []

-- every node but the depot is a customer; dimension 1 is the load, 2 the time; the cost is the travel
abbrev pub standard_setting : Sites → Setting
standard_setting s = record {
  customers = length s.nodes - 1;
  vehicles = s.vehicles;
  tables = standard_tables s;
  dimensions = load_bounds s 0 ∷ time_bounds s 1 ∷ [];
  cost = 2;
  max_events = MOST_PROGRAM_EVENTS;
}
