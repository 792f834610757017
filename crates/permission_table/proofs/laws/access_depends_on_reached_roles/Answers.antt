use Rattle.permission_table.proofs.RightsLaws.{access_same}
use Rattle.permission_table.proofs.laws.access_depends_on_reached_roles.Goals as goal

pub returns : goal.returns
returns c p q session operation customers vehicles reach same object = access_same p q session operation customers vehicles reach same object
