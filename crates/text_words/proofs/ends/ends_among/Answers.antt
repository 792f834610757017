use Rattle.text_words.proofs.Lanes.{ends_by_lanes}
use Rattle.text_words.proofs.ends.ends_among.Goals as goal

pub returns : goal.returns
returns c k = ends_by_lanes c.args.text.now c.args.at k c.requires
