use Rattle.plan_picture.specs.Texts.{lane_end}
use Rattle.plan_picture.proofs.text.push_lane_end.Goals as goal

pub returns : goal.returns
unfolding lane_end
returns c = rw (← c.saturating_sub.ensures, ← c.saturating_sub-2.ensures) c.push_filled.ensures
