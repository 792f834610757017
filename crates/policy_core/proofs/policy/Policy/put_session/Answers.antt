use Rattle.policy_core.specs.Seen.{state_of}
use Rattle.policy_core.proofs.CommandLaws.{put_whole}
use Rattle.policy_core.proofs.policy.Policy.put_session.Goals as goal

pub invariant_of-self : goal.invariant_of-self
invariant_of-self c = put_whole (state_of c.self.inside) c.args.self.now c.self.view_is c.self.invariant c.args.number c.args.session c.requires.used c.requires.there c.requires.whole c.insert.new.self.entries c.in-Ok.ensures.entries
