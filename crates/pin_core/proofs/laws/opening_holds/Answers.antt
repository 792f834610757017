use Rattle.pin_core.proofs.Opening.{opening_pins, opening_fronts}
use Rattle.pin_core.proofs.laws.opening_holds.Goals as goal

pub returns-clause-holding : goal.returns-clause-holding
returns-clause-holding c = opening_pins

pub returns-clause-fitting : goal.returns-clause-fitting
returns-clause-fitting c = opening_fronts
