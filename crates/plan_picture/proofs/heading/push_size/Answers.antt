use Rattle.plan_picture.specs.Texts.{size_text}
use Rattle.plan_picture.proofs.heading.push_size.Goals as goal

pub returns : goal.returns
unfolding size_text
returns c = c.push_filled.ensures
