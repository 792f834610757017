use Rattle.policy_core.specs.Seen.{state_of}
use Rattle.policy_core.specs.declared.separation.Separation.TheVariants.{Static, Dynamic}
use Rattle.policy_core.proofs.SetLaws.{left_whole}
use Rattle.policy_core.proofs.policy.Policy.delete_set_member.Goals as goal

pub invariant_of-self : goal.invariant_of-self
invariant_of-self c = left_whole Static (state_of c.self.inside) c.self.invariant c.args.name c.in-Some.slot c.delete_member.new.self c.delete_member.result c.delete_member.ensures.ok c.delete_member.ensures.err

pub invariant_of-self-in-Dynamic : goal.invariant_of-self-in-Dynamic
invariant_of-self-in-Dynamic c = left_whole Dynamic (state_of c.self.inside) c.self.invariant c.args.name c.in-Some.slot c.delete_member-in-Dynamic.new.self c.delete_member-in-Dynamic.result c.delete_member-in-Dynamic.ensures.ok c.delete_member-in-Dynamic.ensures.err
