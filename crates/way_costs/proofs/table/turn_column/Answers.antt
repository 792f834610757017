use Rattle.way_costs.proofs.Loops.{edges_more, line_set, line_in}
use Rattle.way_costs.proofs.Cells.{column_in, table_fits, place_fits, turned_low, turned_place}
use Rattle.std.proofs.Common.{◌+◌, ◌*◌, ℕ, slice_index, refl}
use Rattle.way_costs.proofs.table.turn_column.Goals as goal

pub overflow_mul-line : goal.overflow_mul-line
overflow_mul-line c = table_fits _ _ (turned_low _ _ _ c.loop-j-test.true c.requires.room c.requires.short) c.requires.short

pub overflow_add-line : goal.overflow_add-line
overflow_add-line c = place_fits 1 c.args.width c.args.width _ _ (turned_place 1) c.requires.short c.requires.short (column_in _ _ _ c.loop-j-test.true c.requires.room) c.requires.column

pub bounds-line-j : goal.bounds-line-j
bounds-line-j c = line_in _ _ _ c.loop-j.invariant.sized c.loop-j-test.true

pub loop-j-preserved : goal.loop-j-preserved
loop-j-preserved c = record {
  sized = line_set c.loop-j.line c.loop-j.j _ _ c.loop-j.invariant.sized;
  cells = edges_more (λ (k : ℕ). slice_index c.args.cells.now (k * c.args.width + c.args.column)) c.loop-j.line c.loop-j.j _ (line_in _ _ _ c.loop-j.invariant.sized c.loop-j-test.true) c.loop-j.invariant.cells refl;
}
