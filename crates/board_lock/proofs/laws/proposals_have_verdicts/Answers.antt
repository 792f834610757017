use Rattle.board_lock.proofs.Versions.{have_verdicts}
use Rattle.board_lock.proofs.laws.proposals_have_verdicts.Goals as goal

pub returns : goal.returns
returns c = have_verdicts
