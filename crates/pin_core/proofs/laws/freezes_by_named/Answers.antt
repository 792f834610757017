use Rattle.pin_core.proofs.Fronts.{freezes_named}
use Rattle.pin_core.proofs.laws.freezes_by_named.Goals as goal

pub returns : goal.returns
returns c = freezes_named c.routes_replaced.ensures.others
