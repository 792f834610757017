use Rattle.plan_picture.specs.Texts.{start_text}
use Rattle.plan_picture.proofs.text.push_start.Goals as goal

pub returns-in-Some : goal.returns-in-Some
unfolding start_text
returns-in-Some c = rw c.in-Some.is c.push_units.ensures

pub returns-in-None : goal.returns-in-None
unfolding start_text
returns-in-None c = rw c.in-None.is c.push_text.ensures
