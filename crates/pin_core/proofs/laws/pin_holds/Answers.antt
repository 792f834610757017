use Rattle.pin_core.proofs.Holding.{pinned_holds}
use Rattle.pin_core.proofs.laws.pin_holds.Goals as goal

pub returns : goal.returns
returns c = pinned_holds
