-- The two dimensions of the program.
use Rattle.std.specs.Prelude.{ℕ, ◌*◌, length, map, true, false, replicate}
use Rattle.solomon_reader.specs.declared.instance.Node.{Node}
use Rattle.dimension_core.specs.declared.range.Range.{Range}
use Rattle.dimension_core.specs.Cumuls.{Bounds}
use Rattle.travel_table.specs.Travel.{node_at}
use Rattle.program_parts.specs.Network.{Sites}

-- the time window of a node, in tenths
abbrev pub window_of : Node → Range
window_of node = record { lo = node.ready * 10; hi = node.due * 10 }

-- the due date of the depot, in tenths
abbrev pub horizon_of : Sites → ℕ
horizon_of s = (node_at s.nodes 0).due * 10

-- the load: over the callback of demands, without slack, empty at the start, and at most the capacity at each node
abbrev pub load_bounds : Sites → ℕ → Bounds
load_bounds s demand = record {
  id = demand;
  slack_max = 0;
  caps = replicate s.vehicles s.capacity;
  fixed = true;
  ranges = replicate (length s.nodes) (record { lo = 0; hi = s.capacity });
}

-- the time: over the callback of service and travel, with slack and capacity up to the horizon, a free start and the windows
abbrev pub time_bounds : Sites → ℕ → Bounds
time_bounds s way = record {
  id = way;
  slack_max = horizon_of s;
  caps = replicate s.vehicles (horizon_of s);
  fixed = false;
  ranges = map window_of s.nodes;
}
