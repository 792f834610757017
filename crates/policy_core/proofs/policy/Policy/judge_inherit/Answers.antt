use Rattle.std.proofs.Common.{ℕ, Option, sym, ap, ap₂, ◌∙◌}
use Rattle.std.specs.Prelude.{is_some, unwrap_or}
use Rattle.role_hierarchy.specs.Order.{stands, with_pair}
use Rattle.role_hierarchy.specs.Below.{juniors_of}
use Rattle.role_hierarchy.specs.Roles.{has}
use Rattle.policy_core.specs.State.{PolicyState, broken}
use Rattle.policy_core.specs.Commands.{inherit_refusal}
use Rattle.policy_core.proofs.TestLaws.{by_slots}
use Rattle.policy_core.proofs.TestLaws.{fails, passes, holds, misses}
use Rattle.policy_core.proofs.policy.Policy.judge_inherit.Goals as goal

pub returns-in_default-clause-refused : goal.returns-in_default-clause-refused
unfolding inherit_refusal
returns-in_default-clause-refused c = sym (fails _ (ap is_some c.in_default.ensures))

pub returns-in_default-slot_of-clause-refused : goal.returns-in_default-slot_of-clause-refused
unfolding inherit_refusal
returns-in_default-slot_of-clause-refused c = sym (passes _ (ap is_some c.in-Some.ensures) (fails _ (ap is_some c.in_default-slot_of.ensures)))

pub returns-then-has_pair-clause-refused : goal.returns-then-has_pair-clause-refused
returns-then-has_pair-clause-refused c =
    by_slots c.args.self.now c.args.senior c.args.junior c.in-Some.above c.in-Some-slot_of.below c.in-Some.ensures c.in-Some-slot_of.ensures
    ∙ sym (holds _ (sym c.if-has_pair.true ∙ c.has_pair.ensures ∙ ap (λ (q : PolicyState). stands q.order c.in-Some.above c.in-Some-slot_of.below) c.self.view_is))

pub returns-then-contains-clause-refused : goal.returns-then-contains-clause-refused
returns-then-contains-clause-refused c =
    by_slots c.args.self.now c.args.senior c.args.junior c.in-Some.above c.in-Some-slot_of.below c.in-Some.ensures c.in-Some-slot_of.ensures
    ∙ sym (misses _ (sym c.if-has_pair.false ∙ c.has_pair.ensures ∙ ap (λ (q : PolicyState). stands q.order c.in-Some.above c.in-Some-slot_of.below) c.self.view_is)
    (holds _ (sym c.if-contains.true ∙ c.contains.ensures ∙ ap (λ s. has s c.in-Some.above) c.juniors.ensures.value ∙ ap (λ (q : PolicyState). has (juniors_of q.order c.in-Some-slot_of.below) c.in-Some.above) c.self.view_is)))

pub returns-in-Ok-None-clause-allowed : goal.returns-in-Ok-None-clause-allowed
returns-in-Ok-None-clause-allowed c =
    by_slots c.args.self.now c.args.senior c.args.junior c.in-Some.above c.in-Some-slot_of.below c.in-Some.ensures c.in-Some-slot_of.ensures
    ∙ sym (misses _ (sym c.if-has_pair.false ∙ c.has_pair.ensures ∙ ap (λ (q : PolicyState). stands q.order c.in-Some.above c.in-Some-slot_of.below) c.self.view_is)
    (misses _ (sym c.if-contains.false ∙ c.contains.ensures ∙ ap (λ s. has s c.in-Some.above) c.juniors.ensures.value ∙ ap (λ (q : PolicyState). has (juniors_of q.order c.in-Some-slot_of.below) c.in-Some.above) c.self.view_is)
    (sym c.in-Ok-None.field-0-is ∙ c.in-Ok-None.ensures)))

pub returns-in-Ok-None-clause-whole : goal.returns-in-Ok-None-clause-whole
returns-in-Ok-None-clause-whole c =
    let now : PolicyState = c.args.self.now in
    sym (sym c.in-Ok-None.field-0-is ∙ c.in-Ok-None.ensures
    ∙ ap₂ (λ (s j : Option ℕ). broken (record now { order = with_pair now.order (unwrap_or s 0) (unwrap_or j 0) })) c.in-Some.ensures c.in-Some-slot_of.ensures)

pub returns-in-Ok-None-clause-senior : goal.returns-in-Ok-None-clause-senior
returns-in-Ok-None-clause-senior c = c.is_policy.ensures.whole.slots.there c.args.senior c.in-Some.above (sym c.in-Some.ensures)

pub returns-in-Ok-None-clause-junior : goal.returns-in-Ok-None-clause-junior
returns-in-Ok-None-clause-junior c = c.is_policy.ensures.whole.slots.there c.args.junior c.in-Some-slot_of.below (sym c.in-Some-slot_of.ensures)
