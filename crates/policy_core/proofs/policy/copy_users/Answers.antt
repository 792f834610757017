use Rattle.policy_core.proofs.PartLaws.{copied}
use Rattle.policy_core.proofs.policy.copy_users.Goals as goal

pub returns : goal.returns
returns c = copied (λ m. m.entries) c.args.users.now c.clone.result _ c.clone.ensures.cases
