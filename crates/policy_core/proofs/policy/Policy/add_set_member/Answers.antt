use Rattle.policy_core.specs.Seen.{state_of}
use Rattle.policy_core.specs.declared.separation.Separation.TheVariants.{Static, Dynamic}
use Rattle.policy_core.proofs.SetLaws.{added_whole}
use Rattle.policy_core.proofs.policy.Policy.add_set_member.Goals as goal

pub invariant_of-self : goal.invariant_of-self
invariant_of-self c = added_whole (state_of c.self.inside) c.args.self.now c.self.view_is c.self.invariant c.args.kind Static c.in-Static.is c.args.name c.args.role c.in_ok-slot.slot c.in_ok-slot.ensures.slot c.in_ok-slot.ensures.there c.in_ok-slot.ensures.whole c.add_member.new.self c.add_member.result c.add_member.ensures.ok c.add_member.ensures.err

pub invariant_of-self-in-Dynamic : goal.invariant_of-self-in-Dynamic
invariant_of-self-in-Dynamic c = added_whole (state_of c.self.inside) c.args.self.now c.self.view_is c.self.invariant c.args.kind Dynamic c.in-Dynamic.is c.args.name c.args.role c.in_ok-slot.slot c.in_ok-slot.ensures.slot c.in_ok-slot.ensures.there c.in_ok-slot.ensures.whole c.add_member-in-Dynamic.new.self c.add_member-in-Dynamic.result c.add_member-in-Dynamic.ensures.ok c.add_member-in-Dynamic.ensures.err
