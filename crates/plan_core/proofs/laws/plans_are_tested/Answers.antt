use Rattle.plan_core.proofs.Tested.{plan_from_test}
use Rattle.plan_core.proofs.laws.plans_are_tested.Goals as goal

pub returns : goal.returns
returns c = plan_from_test
