use Rattle.policy_core.specs.Seen.{state_of}
use Rattle.policy_core.proofs.CommandLaws.{granted_whole}
use Rattle.policy_core.proofs.policy.Policy.grant_permission.Goals as goal

pub invariant_of-self : goal.invariant_of-self
invariant_of-self c = granted_whole (state_of c.self.inside) c.args.self.now c.self.view_is c.self.invariant c.in_ok-slot.slot c.args.operation _ c.in_ok-slot.ensures.there c.grant.new.self c.grant.ensures
