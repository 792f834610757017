use Rattle.std.proofs.Common.{◌≡◌, ◌+◌, ◌*◌, ◌<◌, ℕ, length, slice_index}
use Rattle.way_costs.proofs.table.turn_column.Given as goal

-- the numbers so far
abbrev pub invariant-loop-j : goal.invariant-loop-j
invariant-loop-j l = record {
  sized : length l.line ≡ length l.fn.line;
  cells : (k : ℕ) → k < l.j → slice_index l.line k ≡ slice_index l.cells (k * l.width + l.column);
}
