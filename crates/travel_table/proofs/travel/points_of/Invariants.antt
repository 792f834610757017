use Rattle.std.proofs.Common.{◌≡◌, All, map, take}
use Rattle.travel_table.specs.Travel.{point_of, IsNearPoint}
use Rattle.travel_table.proofs.travel.points_of.Given as goal

-- the points so far
abbrev pub invariant-loop-node : goal.invariant-loop-node
invariant-loop-node l = record {
  value : l.points.items ≡ map point_of (take l.node-index l.nodes);
  near : All IsNearPoint l.points.items;
}
