use Rattle.policy_core.specs.Seen.{state_of}
use Rattle.policy_core.specs.declared.separation.Separation.TheVariants.{Static, Dynamic}
use Rattle.policy_core.proofs.SetLaws.{created_whole}
use Rattle.policy_core.proofs.policy.Policy.create_set.Goals as goal

pub invariant_of-self : goal.invariant_of-self
invariant_of-self c = created_whole (state_of c.self.inside) c.args.self.now c.self.view_is c.self.invariant c.args.kind Static c.in-Static.is c.args.name c.args.number c.args.roles.now c.in_ok-set.set c.in_ok-set.ensures.set c.in_ok-set.ensures.there c.in_ok-set.ensures.whole c.create.new.self c.create.result c.create.ensures.ok c.create.ensures.err

pub invariant_of-self-in-Dynamic : goal.invariant_of-self-in-Dynamic
invariant_of-self-in-Dynamic c = created_whole (state_of c.self.inside) c.args.self.now c.self.view_is c.self.invariant c.args.kind Dynamic c.in-Dynamic.is c.args.name c.args.number c.args.roles.now c.in_ok-set.set c.in_ok-set.ensures.set c.in_ok-set.ensures.there c.in_ok-set.ensures.whole c.create-in-Dynamic.new.self c.create-in-Dynamic.result c.create-in-Dynamic.ensures.ok c.create-in-Dynamic.ensures.err
