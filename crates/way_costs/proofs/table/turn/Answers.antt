use Rattle.way_costs.proofs.Cells.{turned_line, turned_all}
use Rattle.way_costs.proofs.table.turn.Goals as goal

pub loop-i-preserved : goal.loop-i-preserved
loop-i-preserved c = turned_line _ _ _ _ _ c.loop-i.invariant c.turn_at.ensures.sized c.turn_at.ensures.cells c.turn_at.ensures.kept

pub returns : goal.returns
returns c = turned_all _ c.loop-i.i _ _ c.loop-i-test.false c.loop-i.invariant
