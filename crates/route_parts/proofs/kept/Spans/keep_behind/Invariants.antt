use Rattle.std.proofs.Common.{◌+◌, ◌-◌, ◌*◌, ◌<◌, length, drop}
use Rattle.dimension_core.specs.Cumuls.{table_of}
use Rattle.dimension_core.specs.Setup.{setting}
use Rattle.route_parts.specs.Kept.{AreCells, IsBehind}
use Rattle.route_parts.proofs.Keeping.{IsTail}
use Rattle.route_parts.proofs.kept.Spans.keep_behind.Given as goal

-- the spans of the dimensions so far
abbrev pub invariant-loop-dimension : goal.invariant-loop-dimension
invariant-loop-dimension g l =
    AreCells (λ k place span. IsBehind (setting l.setup) l.vehicle (drop (length l.route - place) l.route) k span) (length l.route + 1) (l.dimension-index * (length l.route + 1)) l.cells.items

-- and of the customers so far
abbrev pub invariant-loop-k : goal.invariant-loop-k
invariant-loop-k g l = record {
  cells : AreCells (λ k place span. IsBehind (setting l.setup) l.vehicle (drop (length l.route - place) l.route) k span) (length l.route + 1) (l.dimension-index * (length l.route + 1) + (l.k + 1)) l.cells.items;
  tail : IsTail (table_of (setting l.setup).tables l.dimension) l.dimension l.vehicle (drop (length l.route - l.k) l.route) l.next l.span;
  known : l.next < length l.dimension.ranges;
}
