use Rattle.policy_core.proofs.PartLaws.{copied}
use Rattle.policy_core.proofs.policy.copy_roles.Goals as goal

pub returns : goal.returns
returns c = copied (λ m. m.entries) c.args.roles.now c.clone.result _ c.clone.ensures.cases
