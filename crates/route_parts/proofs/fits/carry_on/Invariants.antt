use Rattle.std.proofs.Common.{◌≡◌, ℕ, ◌<◌, ◌≤◌, List, ◌++◌, length, take, Some}
use Rattle.dimension_core.specs.Cumuls.{IsSpan, last_of}
use Rattle.route_parts.specs.Lane.{Gets}
use Rattle.route_parts.proofs.fits.carry_on.Given as goal

-- after whatever was done before, the range is that of the last node so far
abbrev pub invariant-loop-node : goal.invariant-loop-node
invariant-loop-node g l = record {
  span : (done : List ℕ) → IsSpan (Some l.fn.range) (Gets (g.C.Callback.table l.callback) l.lane done) → l.fn.from ≡ last_of 0 done
      → IsSpan (Some l.range) (Gets (g.C.Callback.table l.callback) l.lane (done ++ take l.node-index l.nodes))
      × (l.from ≡ last_of 0 (done ++ take l.node-index l.nodes));
  known : l.from < length l.lane.dimension.now.ranges;
  filled : l.range.lo ≤ l.range.hi;
  small : l.range.hi ≤ 1000000000000;
}
