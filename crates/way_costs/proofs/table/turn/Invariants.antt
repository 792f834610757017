use Rattle.way_costs.specs.Ways.{IsTurned}
use Rattle.way_costs.proofs.table.turn.Given as goal

-- the rows so far
abbrev pub invariant-loop-i : goal.invariant-loop-i
invariant-loop-i l = IsTurned l.width l.i l.cells l.back
