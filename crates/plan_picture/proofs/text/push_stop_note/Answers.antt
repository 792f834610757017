use Rattle.plan_picture.specs.Texts.{stop_note}
use Rattle.plan_picture.proofs.Writing.{units, last_units}
use Rattle.plan_picture.proofs.text.push_stop_note.Goals as goal

pub returns : goal.returns
unfolding stop_note
returns c = rw (units, last_units) c.push_filled.ensures
