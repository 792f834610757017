use Rattle.std.proofs.Common.{ap, map, ◌∙◌}
use Rattle.std.proofs.lemmas.List.{take_all}
use Rattle.published_board.specs.Lanes.{route_in}
use Rattle.published_board.proofs.Loops.{mapped_more}
use Rattle.published_board.proofs.views.routes.Goals as goal

pub loop-lane-preserved : goal.loop-lane-preserved
loop-lane-preserved c =
    mapped_more route_in (λ r. r.value) c.args.lanes.now c.loop-lane.lane-index c.lane-item.result c.loop-lane.made.items c.push.new.self.items c.in_ok-route.field-0
    c.loop-lane-test.true c.lane-item.is c.loop-lane.invariant c.in_ok-push.ensures.items c.in_ok-route.ensures

pub returns : goal.returns
returns c = c.loop-lane.invariant ∙ ap (map route_in) (take_all c.loop-lane.lane-index c.args.lanes.now c.loop-lane-test.false)
