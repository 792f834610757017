use Rattle.std.proofs.Common.{true}
use Rattle.way_costs.proofs.Cells.{AreAsked}
use Rattle.way_costs.proofs.table.ask_back.Given as goal

-- the ways so far
abbrev pub invariant-loop-k : goal.invariant-loop-k
invariant-loop-k g l = AreAsked true (g.C.Callback.table l.callback) l.stop l.to l.k l.least l.row
