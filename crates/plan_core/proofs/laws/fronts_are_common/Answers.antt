use Rattle.plan_core.proofs.Fronts.{front_is, front_only}
use Rattle.plan_core.proofs.laws.fronts_are_common.Goals as goal

pub returns : goal.returns
returns c = record { is = front_is; only = front_only }
