use Rattle.plan_picture.specs.Texts.{depot_text}
use Rattle.plan_picture.proofs.text.push_depot.Goals as goal

pub returns : goal.returns
unfolding depot_text
returns c = c.push_filled.ensures
