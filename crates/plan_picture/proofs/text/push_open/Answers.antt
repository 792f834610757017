use Rattle.plan_picture.specs.Texts.{open_text}
use Rattle.plan_picture.proofs.text.push_open.Goals as goal

pub returns : goal.returns
unfolding open_text
returns c = c.push_filled.ensures
