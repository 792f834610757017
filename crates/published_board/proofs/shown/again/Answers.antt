use Rattle.std.proofs.Common.{[], ◌∷◌, ◌++◌, sym, ◌∙◌}
use Rattle.std.proofs.lemmas.List.{take_all, take_more}
use Rattle.published_board.proofs.shown.again.Goals as goal

pub loop-lane-preserved : goal.loop-lane-preserved
loop-lane-preserved c =
    let one = c.again.ensures ∙ c.lane-item.is in
    c.in_ok-push.ensures.items ∙ ((λ i. c.loop-lane.invariant i ++ one i ∷ []) ∙ sym (take_more c.args.lanes.now c.loop-lane.lane-index c.lane-item.result c.loop-lane-test.true))

pub returns : goal.returns
returns c = c.loop-lane.invariant ∙ take_all c.loop-lane.lane-index c.args.lanes.now c.loop-lane-test.false
