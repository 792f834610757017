use Rattle.policy_core.specs.Seen.{state_of}
use Rattle.policy_core.proofs.CommandLaws.{gone_whole}
use Rattle.policy_core.proofs.policy.Policy.delete_user.Goals as goal

pub invariant_of-self-2 : goal.invariant_of-self-2
invariant_of-self-2 c = gone_whole (state_of c.self.inside) c.self.invariant c.args.user c.shift_remove.new.self.entries c.drop_sessions_of.new.sessions.entries c.shift_remove.ensures.entries c.drop_sessions_of.ensures
