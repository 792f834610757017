use Rattle.pin_core.proofs.Holding.{unpinned_holds}
use Rattle.pin_core.proofs.laws.unpin_holds.Goals as goal

pub returns : goal.returns
returns c = unpinned_holds
