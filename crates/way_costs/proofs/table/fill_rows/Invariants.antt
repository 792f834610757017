use Rattle.callback_store.specs.Tables.{table_at}
use Rattle.dimension_core.specs.Setup.{setting}
use Rattle.way_costs.proofs.Cells.{AreFilledFrom, AreFlooredTo}
use Rattle.way_costs.proofs.table.fill_rows.Given as goal

-- the rows so far
abbrev pub invariant-loop-i : goal.invariant-loop-i
invariant-loop-i g l = record {
  filled : AreFilledFrom l.asking.turned (table_at (setting l.setup).tables (setting l.setup).cost) l.from l.to l.first l.column l.i l.cells;
  floored : AreFlooredTo l.to l.first l.column l.spare l.i l.cells;
}
