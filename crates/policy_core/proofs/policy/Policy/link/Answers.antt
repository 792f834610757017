use Rattle.std.proofs.Common.{◌≡◌, ℕ, ap, ap₂, ◌∙◌, arith}
use Rattle.role_hierarchy.specs.Roles.{has}
use Rattle.role_hierarchy.specs.Order.{Order, is_there, stands, with_pair}
use Rattle.role_hierarchy.specs.Below.{juniors_of}
use Rattle.policy_core.specs.Seen.{state_of}
use Rattle.policy_core.specs.State.{PolicyState, broken, slot_of}
use Rattle.policy_core.proofs.CommandLaws.{pair_whole}
use Rattle.policy_core.proofs.WiderLaws.{no_refusal}
use Rattle.policy_core.proofs.policy.Policy.link.Goals as goal

pub unreachable-requires : goal.unreachable-requires
unreachable-requires c =
    let p : PolicyState = state_of c.self.inside in
    let s = c.args.above in
    let j = c.args.below in
    let same : p ≡ c.args.self.now = c.self.view_is in
    no_refusal p.order c.is_order.ensures s j (omega arith)
    (ap (λ (q : PolicyState). is_there q.order s) same ∙ c.requires.senior)
    (ap (λ (q : PolicyState). is_there q.order j) same ∙ c.requires.junior)
    (ap (λ (q : PolicyState). stands q.order s j) same ∙ c.requires.new)
    (ap (λ (q : PolicyState). has (juniors_of q.order j) s) same ∙ c.requires.apart)
    c.in_default.field-0 c.in_default.ensures.refusal

pub invariant_of-self : goal.invariant_of-self
invariant_of-self c =
    let now : PolicyState = c.args.self.now in
    pair_whole (state_of c.self.inside) now c.self.view_is c.self.invariant c.args.above c.args.below
    (ap₂ (λ (s j : ℕ). broken (record now { order = with_pair now.order s j })) c.requires.above c.requires.below ∙ c.requires.whole) c.add_inheritance.new.self c.in-Ok.ensures.ok

pub returns : goal.returns
returns c =
    let p : PolicyState = state_of c.self.inside in
    let now : PolicyState = c.args.self.now in
    ap (λ (order : Order). record p { order = order }) c.in-Ok.ensures.ok
    ∙ ap₂ (λ (s j : ℕ). record p { order = with_pair p.order s j }) c.requires.above c.requires.below
    ∙ ap (λ (q : PolicyState). record q { order = with_pair q.order (slot_of now c.args.senior) (slot_of now c.args.junior) }) c.self.view_is
