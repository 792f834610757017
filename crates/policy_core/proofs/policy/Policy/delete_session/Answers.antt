use Rattle.policy_core.specs.Seen.{state_of}
use Rattle.policy_core.proofs.CommandLaws.{shut_whole}
use Rattle.policy_core.proofs.policy.Policy.delete_session.Goals as goal

pub invariant_of-self-2 : goal.invariant_of-self-2
invariant_of-self-2 c = shut_whole (state_of c.self.inside) c.args.self.now c.self.view_is c.self.invariant c.args.number c.shift_remove.new.self.entries c.shift_remove.ensures.entries
