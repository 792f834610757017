use Rattle.std.proofs.Common.{false}
use Rattle.way_costs.proofs.Cells.{AreAsked}
use Rattle.way_costs.proofs.table.ask_out.Given as goal

-- the ways so far
abbrev pub invariant-loop-k : goal.invariant-loop-k
invariant-loop-k g l = AreAsked false (g.C.Callback.table l.callback) l.stop l.to l.k l.least l.row
