use Rattle.plan_picture.specs.Texts.{leg_text}
use Rattle.plan_picture.proofs.Writing.{units}
use Rattle.plan_picture.proofs.text.push_leg.Goals as goal

pub returns : goal.returns
unfolding leg_text
returns c = rw (units, ← c.middle.ensures, ← c.middle-2.ensures) c.push_filled.ensures
