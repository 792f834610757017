use Rattle.plan_picture.specs.Texts.{sums_line}
use Rattle.plan_picture.proofs.Writing.{units}
use Rattle.plan_picture.proofs.heading.push_sums.Goals as goal

pub returns : goal.returns
unfolding sums_line
returns c = rw units c.push_filled.ensures
