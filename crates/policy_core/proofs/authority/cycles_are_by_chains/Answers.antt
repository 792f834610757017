use Rattle.std.proofs.Common.{◌<◌, arith}
use Rattle.policy_core.specs.State.{slot_of}
use Rattle.policy_core.proofs.AuthorityLaws.{cycle_by_chains}
use Rattle.policy_core.proofs.authority.cycles_are_by_chains.Goals as goal

pub returns : goal.returns
returns c =
    let small : slot_of c.args.policy.now c.args.junior < 256 = omega (arith, c.slot_or_zero-slot.ensures) in
    cycle_by_chains c.args.policy.now c.is_policy.ensures.order c.args.senior c.args.junior small
