use Rattle.policy_core.proofs.PartLaws.{copied}
use Rattle.policy_core.proofs.policy.copy_sessions.Goals as goal

pub returns : goal.returns
returns c = copied (λ m. m.entries) c.args.sessions.now c.clone.result _ c.clone.ensures.cases
