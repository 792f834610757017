use Rattle.plan_picture.specs.Texts.{entry_open}
use Rattle.plan_picture.proofs.text.push_entry_open.Goals as goal

pub returns : goal.returns
unfolding entry_open
returns c = rw (← c.stops_end.ensures) c.push_filled.ensures
