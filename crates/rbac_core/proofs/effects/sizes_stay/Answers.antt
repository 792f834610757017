use Rattle.rbac_core.proofs.SizeLaws.{customers_stay, vehicles_stay}
use Rattle.rbac_core.proofs.effects.sizes_stay.Goals as goal

pub returns-clause-customers : goal.returns-clause-customers
returns-clause-customers c p command = customers_stay p command

pub returns-clause-vehicles : goal.returns-clause-vehicles
returns-clause-vehicles c p command = vehicles_stay p command
