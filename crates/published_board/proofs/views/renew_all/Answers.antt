use Rattle.std.proofs.Common.{ap, ◌∙◌}
use Rattle.std.proofs.lemmas.List.{take_all}
use Rattle.plan_core.specs.Plan.{routes_of}
use Rattle.published_board.specs.Lanes.{renewed, renewed_by}
use Rattle.published_board.proofs.Loops.{folded_more}
use Rattle.published_board.proofs.views.renew_all.Goals as goal

pub loop-lane-preserved : goal.loop-lane-preserved
loop-lane-preserved c =
    folded_more (renewed_by c.args.entries) (routes_of c.args.routes.now.items) c.args.lanes.now c.loop-lane.lane-index c.lane-item.result (routes_of c.loop-lane.routes.items)
    (routes_of c.renew_one.new.routes.items) c.loop-lane-test.true c.lane-item.is c.loop-lane.invariant c.in_ok-renew_one.ensures

pub returns : goal.returns
returns c =
    let old = routes_of c.args.routes.now.items in
    c.loop-lane.invariant ∙ ap (λ ms. renewed c.args.entries ms old) (take_all c.loop-lane.lane-index c.args.lanes.now c.loop-lane-test.false)
