use Rattle.std.proofs.Common.{◌≡◌, ◌+◌, ◌*◌, ◌<◌, length, take}
use Rattle.dimension_core.specs.Cumuls.{IsSpan, Reaches, table_of, last_of}
use Rattle.dimension_core.specs.Setup.{setting}
use Rattle.route_parts.specs.Kept.{AreCells, IsAhead}
use Rattle.route_parts.proofs.kept.Spans.keep_ahead.Given as goal

-- the spans of the dimensions so far
abbrev pub invariant-loop-dimension : goal.invariant-loop-dimension
invariant-loop-dimension g l =
    AreCells (λ k place span. IsAhead (setting l.setup) l.vehicle (take place l.route) k span) (length l.route + 1) (l.dimension-index * (length l.route + 1)) l.cells.items

-- and of the customers so far
abbrev pub invariant-loop-customer : goal.invariant-loop-customer
invariant-loop-customer g l = record {
  cells : AreCells (λ k place span. IsAhead (setting l.setup) l.vehicle (take place l.route) k span) (length l.route + 1) (l.dimension-index * (length l.route + 1) + (l.customer-index + 1)) l.cells.items;
  span : IsSpan l.span (Reaches (table_of (setting l.setup).tables l.dimension) l.dimension l.vehicle (take l.customer-index l.route));
  from : l.from ≡ last_of 0 (take l.customer-index l.route);
  known : l.from < length l.dimension.ranges;
}
