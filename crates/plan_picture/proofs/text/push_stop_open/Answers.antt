use Rattle.plan_picture.specs.Texts.{stop_open}
use Rattle.plan_picture.proofs.text.push_stop_open.Goals as goal

pub returns : goal.returns
unfolding stop_open
returns c = c.push_filled.ensures
