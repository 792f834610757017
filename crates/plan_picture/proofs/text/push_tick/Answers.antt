use Rattle.plan_picture.specs.Texts.{tick_text}
use Rattle.plan_picture.proofs.Writing.{units}
use Rattle.plan_picture.proofs.text.push_tick.Goals as goal

pub returns : goal.returns
unfolding tick_text
returns c = rw units c.push_filled.ensures
