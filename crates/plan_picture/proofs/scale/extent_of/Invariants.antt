use Rattle.std.proofs.Common.{◌≡◌, drop}
use Rattle.std.specs.Prelude.{max, min, fold}
use Rattle.plan_picture.specs.Scales.{least_x, most_x, least_y, most_y}
use Rattle.plan_picture.proofs.scale.extent_of.Given as goal

-- what the nodes that are left make of it
abbrev pub invariant-loop-node : goal.invariant-loop-node
invariant-loop-node l = record {
  least_x : fold (λ m n. min m n.x) l.extent.least_x (drop l.node-index l.nodes) ≡ least_x l.nodes;
  most_x : fold (λ m n. max m n.x) l.extent.most_x (drop l.node-index l.nodes) ≡ most_x l.nodes;
  least_y : fold (λ m n. min m n.y) l.extent.least_y (drop l.node-index l.nodes) ≡ least_y l.nodes;
  most_y : fold (λ m n. max m n.y) l.extent.most_y (drop l.node-index l.nodes) ≡ most_y l.nodes;
  most_demand : fold (λ m n. max m n.demand) l.extent.most_demand (drop l.node-index l.nodes) ≡ fold (λ m n. max m n.demand) 0 l.nodes;
}
