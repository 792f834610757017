use Rattle.std.proofs.Common.{None, Some, ap, ◌∙◌, arith}
use Rattle.separation_core.specs.Groups.{first_breaking}
use Rattle.policy_core.specs.Seen.{state_of}
use Rattle.policy_core.proofs.WiderLaws.{ssd_of_pair, no_set_breaks}
use Rattle.policy_core.proofs.policy.Policy.ssd_refusal_of_pair.Goals as goal

pub returns-in-Some : goal.returns-in-Some
returns-in-Some c =
    let p = state_of c.self.inside in
    ssd_of_pair p c.args.self.now c.self.view_is c.self.invariant c.is_order.ensures c.args.above c.args.below (omega arith) (omega arith) (Some c.in-Some.set)
    (c.in-Some.ensures ∙ ap (λ all. first_breaking all p.ssd) (c.deref.ensures.value ∙ c.in_ok-wider.ensures))

pub returns : goal.returns
returns c =
    let p = state_of c.self.inside in
    ssd_of_pair p c.args.self.now c.self.view_is c.self.invariant c.is_order.ensures c.args.above c.args.below (omega arith) (omega arith) None
    (c.in-None.ensures ∙ ap (λ all. first_breaking all p.ssd) (c.deref.ensures.value ∙ c.in_ok-wider.ensures))

pub returns-then-is_empty : goal.returns-then-is_empty
returns-then-is_empty c =
    let p = state_of c.self.inside in
    ssd_of_pair p c.args.self.now c.self.view_is c.self.invariant c.is_order.ensures c.args.above c.args.below (omega arith) (omega arith) None
    (no_set_breaks _ p.ssd (c.is_empty.ensures.0 c.if-is_empty.true))
