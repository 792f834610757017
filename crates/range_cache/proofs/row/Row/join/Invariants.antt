use Rattle.std.proofs.Common.{◌≡◌, ◌+◌, ◌*◌, ◌≤◌, length}
use Rattle.std.specs.Prelude.{vec_capacity}
use Rattle.dimension_core.specs.Setup.{setting}
use Rattle.range_cache.proofs.Joins.{IsPart}
use Rattle.range_cache.proofs.Rows.{AreFilled}
use Rattle.range_cache.proofs.row.Row.join.Given as goal

-- the ranges of the dimensions so far are there
abbrev pub invariant-loop-dimension : goal.invariant-loop-dimension
invariant-loop-dimension g l = record {
  counted : l.row-inside.stops ≡ l.front + l.fresh.stops;
  filled : AreFilled (IsPart l.front l.self l.fresh) (l.front + l.fresh.stops) l.dimension l.row-inside.ranges.items;
  room : length (setting l.setup).dimensions * (l.front + l.fresh.stops) ≤ vec_capacity l.row-inside.ranges;
}
