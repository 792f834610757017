use Rattle.policy_core.specs.Seen.{state_of}
use Rattle.policy_core.specs.declared.separation.Separation.TheVariants.{Static, Dynamic}
use Rattle.policy_core.proofs.SetLaws.{gone_whole}
use Rattle.policy_core.proofs.policy.Policy.delete_set.Goals as goal

pub invariant_of-self : goal.invariant_of-self
invariant_of-self c = gone_whole Static (state_of c.self.inside) c.self.invariant c.args.name c.delete.new.self c.delete.result c.delete.ensures.ok c.delete.ensures.err

pub invariant_of-self-in-Dynamic : goal.invariant_of-self-in-Dynamic
invariant_of-self-in-Dynamic c = gone_whole Dynamic (state_of c.self.inside) c.self.invariant c.args.name c.delete-in-Dynamic.new.self c.delete-in-Dynamic.result c.delete-in-Dynamic.ensures.ok c.delete-in-Dynamic.ensures.err
