-- Where things stand in a picture. All numbers are tenths of a pixel.
use Rattle.std.specs.Prelude.{ℕ, ◌+◌, ◌-◌, ◌*◌, ◌/◌, max, min, List, fold}
use Rattle.solomon_reader.specs.declared.instance.Node.{Node}
use Rattle.travel_table.specs.Travel.{node_at}
use Rattle.plan_marks.specs.declared.ground.Frame.{Frame}
use Rattle.plan_picture.specs.declared.scale.Clock.{Clock}

-- ---- the map

-- the least and the greatest of some numbers of the nodes
abbrev pub least_x : List Node → ℕ
least_x nodes = fold (λ m n. min m n.x) (node_at nodes 0).x nodes

abbrev pub most_x : List Node → ℕ
most_x nodes = fold (λ m n. max m n.x) (node_at nodes 0).x nodes

abbrev pub least_y : List Node → ℕ
least_y nodes = fold (λ m n. min m n.y) (node_at nodes 0).y nodes

abbrev pub most_y : List Node → ℕ
most_y nodes = fold (λ m n. max m n.y) (node_at nodes 0).y nodes

abbrev pub most_demand : List Node → ℕ
most_demand nodes = max (fold (λ m n. max m n.demand) 0 nodes) 1

-- the square that all nodes are in: its left side, its upper side and how wide it is, at least 1
abbrev pub frame_of : List Node → Frame
frame_of nodes = record {
  left = least_x nodes;
  top = most_y nodes;
  span = max (max (most_x nodes - least_x nodes) (most_y nodes - least_y nodes)) 1;
}

-- ---- the timelines

-- from the depot's ready time to its due date, in tenths of the unit of time; at least 1
abbrev pub clock_of : List Node → Clock
clock_of nodes = record { from = (node_at nodes 0).ready * 10; span = max (((node_at nodes 0).due - (node_at nodes 0).ready) * 10) 1 }

-- where a time stands: the depot's horizon is 10,800 wide, from 1,600 on; what is later stands at its end
abbrev pub x_of : Clock → ℕ → ℕ
x_of c t = 1600 + min (t - c.from) c.span * 10800 / c.span
