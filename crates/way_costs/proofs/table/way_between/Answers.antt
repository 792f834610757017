use Rattle.std.proofs.Common.{false, ◌∙◌, sym}
use Rattle.way_costs.proofs.Cells.{neither, way_away, way_fits}
use Rattle.way_costs.proofs.table.way_between.Goals as goal

pub overflow_cast-result : goal.overflow_cast-result
overflow_cast-result g c = way_fits _ c.answer_way.ensures.small

pub returns : goal.returns
returns g c = c.answer_way.ensures.answer ∙ sym (way_away false (g.C.Callback.table c.args.callback.now) c.args.i c.args.j (neither _ _ c.else-j-eq0.either))
