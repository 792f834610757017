use Rattle.std.proofs.Common.{take}
use Rattle.plan_core.specs.Plan.{route_at}
use Rattle.pin_core.proofs.Drafted.{in_rest, in_kept}
use Rattle.pin_core.proofs.pins.is_drafted.Goals as goal

pub returns-then-is_on : goal.returns-then-is_on
returns-then-is_on g c =
    let d = g.R.NewRoute.draft c.args.new.now in
    in_rest (take d.kept (route_at c.args.plan.now.routes d.vehicle)) d.rest c.follows.result.now c.args.customer c.is_on.result c.follows.ensures c.if-is_on.true c.is_on.ensures

pub returns-else-is_on : goal.returns-else-is_on
returns-else-is_on g c =
    let d = g.R.NewRoute.draft c.args.new.now in
    in_kept (take d.kept (route_at c.args.plan.now.routes d.vehicle)) d.rest c.follows.result.now c.args.customer c.is_on.result c.is_kept.result c.follows.ensures c.if-is_on.false
    c.is_on.ensures c.is_kept.ensures
