use Rattle.std.proofs.Common.{true, false}
use Rattle.way_costs.proofs.Cells.{stays, way_answered}
use Rattle.way_costs.proofs.table.way_from_depot.Goals as goal

pub returns-then-stop-eq0 : goal.returns-then-stop-eq0
returns-then-stop-eq0 g c = stays c.args.turned (g.C.Callback.table c.args.callback.now) c.args.stop c.if-stop-eq0.true

pub returns-then-turned : goal.returns-then-turned
returns-then-turned g c = way_answered c.args.turned true (g.C.Callback.table c.args.callback.now) c.args.stop _ c.if-turned.true c.if-stop-eq0.false c.answer_way.ensures.answer

pub returns-else-turned : goal.returns-else-turned
returns-else-turned g c = way_answered c.args.turned false (g.C.Callback.table c.args.callback.now) c.args.stop _ c.if-turned.false c.if-stop-eq0.false c.answer_way-else-turned.ensures.answer
