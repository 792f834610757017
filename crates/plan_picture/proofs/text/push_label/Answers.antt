use Rattle.plan_picture.specs.Texts.{label_text}
use Rattle.plan_picture.proofs.text.push_label.Goals as goal

pub returns : goal.returns
unfolding label_text
returns c = c.push_filled.ensures
