use Rattle.plan_picture.specs.Texts.{entry_end}
use Rattle.plan_picture.proofs.Writing.{units}
use Rattle.plan_picture.proofs.text.push_entry_end.Goals as goal

pub returns : goal.returns
unfolding entry_end
returns c = rw (units c.args.entry.now.tour.back, units c.args.entry.now.tour.distance) c.push_filled.ensures
