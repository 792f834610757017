-- What is kept while a picture is made.
use Rattle.std.specs.Prelude.{◌≤◌, max, List, fold}
use Rattle.limits.specs.declared.TheConstants.{LATEST_TIME}
use Rattle.solomon_reader.specs.declared.instance.Node.{Node}
use Rattle.plan_picture.specs.declared.layout.Layout.{Layout}
use Rattle.plan_picture.specs.declared.scale.Extent.{Extent}
use Rattle.plan_picture.specs.Scales.{least_x, most_x, least_y, most_y}

-- the least and the greatest numbers of some nodes
abbrev pub extent_of : List Node → Extent
extent_of nodes = record {
  least_x = least_x nodes;
  most_x = most_x nodes;
  least_y = least_y nodes;
  most_y = most_y nodes;
  most_demand = fold (λ m n. max m n.demand) 0 nodes;
}

-- scales that may be divided by, and numbers that are not large
pub record IsLayout (l : Layout) : Type 0 where
  pub span : 1 ≤ l.frame.span
  pub most : 1 ≤ l.most
  pub some_time : 1 ≤ l.clock.span
  pub few_times : l.clock.span ≤ LATEST_TIME
  pub from : l.clock.from ≤ LATEST_TIME
  pub top : l.top ≤ 1000000
  pub bottom : l.bottom ≤ 1000000
