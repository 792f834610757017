use Rattle.plan_picture.specs.Texts.{lanes_heading}
use Rattle.plan_picture.proofs.heading.push_lanes_heading.Goals as goal

pub returns : goal.returns
unfolding lanes_heading
returns c = c.push_filled.ensures
