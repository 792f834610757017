use Rattle.callback_store.specs.Tables.{table_at}
use Rattle.dimension_core.specs.Setup.{setting}
use Rattle.way_costs.proofs.Cells.{AreAsked}
use Rattle.way_costs.proofs.table.read_row.Given as goal

-- the ways so far
abbrev pub invariant-loop-k : goal.invariant-loop-k
invariant-loop-k g l = AreAsked l.turned (table_at (setting l.setup).tables (setting l.setup).cost) l.stop l.to l.k l.least l.row
