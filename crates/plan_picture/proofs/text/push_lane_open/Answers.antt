use Rattle.plan_picture.specs.Texts.{lane_open}
use Rattle.plan_picture.proofs.text.push_lane_open.Goals as goal

pub returns : goal.returns
unfolding lane_open
returns c = c.push_filled.ensures
