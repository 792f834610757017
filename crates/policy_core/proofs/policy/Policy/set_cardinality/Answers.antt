use Rattle.policy_core.specs.Seen.{state_of}
use Rattle.policy_core.specs.declared.separation.Separation.TheVariants.{Static, Dynamic}
use Rattle.policy_core.proofs.SetLaws.{numbered_whole}
use Rattle.policy_core.proofs.policy.Policy.set_cardinality.Goals as goal

pub invariant_of-self : goal.invariant_of-self
invariant_of-self c = numbered_whole (state_of c.self.inside) c.args.self.now c.self.view_is c.self.invariant c.args.kind Static c.in-Static.is c.args.name c.args.number c.in_ok-judge_cardinality.ensures.whole c.set_number.new.self c.set_number.result c.set_number.ensures.ok c.set_number.ensures.err

pub invariant_of-self-in-Dynamic : goal.invariant_of-self-in-Dynamic
invariant_of-self-in-Dynamic c = numbered_whole (state_of c.self.inside) c.args.self.now c.self.view_is c.self.invariant c.args.kind Dynamic c.in-Dynamic.is c.args.name c.args.number c.in_ok-judge_cardinality.ensures.whole c.set_number-in-Dynamic.new.self c.set_number-in-Dynamic.result c.set_number-in-Dynamic.ensures.ok c.set_number-in-Dynamic.ensures.err
