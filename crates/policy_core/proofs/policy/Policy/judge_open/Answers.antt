use Rattle.std.proofs.Common.{ℕ, ◌+◌, sym, ap, ◌∙◌}
use Rattle.std.specs.Prelude.{is_some}
use Rattle.role_hierarchy.specs.Roles.{is_within}
use Rattle.role_hierarchy.specs.Below.{closed}
use Rattle.policy_core.specs.State.{PolicyState, broken_dsd, with_session}
use Rattle.policy_core.specs.Commands.{open_refusal}
use Rattle.policy_core.proofs.TestLaws.{fails, passes, found, by_active}
use Rattle.policy_core.proofs.policy.Policy.judge_open.Goals as goal

pub returns-in_default-clause-refused : goal.returns-in_default-clause-refused
unfolding open_refusal
returns-in_default-clause-refused c = fails _ (ap is_some c.in_default.ensures)

pub returns-in_default-slots_of-clause-refused : goal.returns-in_default-slots_of-clause-refused
unfolding open_refusal
returns-in_default-slots_of-clause-refused c = passes _ (ap is_some c.in-Some.ensures) (fails _ c.in_default-slots_of.ensures.there)

pub returns-then-not-is_subset-clause-refused : goal.returns-then-not-is_subset-clause-refused
returns-then-not-is_subset-clause-refused c =
    fails _ (sym c.if-not-is_subset.true ∙ c.is_subset.ensures ∙ ap (is_within c.in-Some-slots_of.active) (c.closure.ensures.value ∙ ap (λ (s : PolicyState). closed s.order c.in-Some.held) c.self.view_is))
    ∙ by_active c.args.self.now c.args.user c.args.roles.now c.in-Some.held c.in-Some-slots_of.active c.in-Some.ensures c.in-Some-slots_of.ensures.there c.in-Some-slots_of.ensures.slots

pub returns-in-Some-refusal_of_active-clause-refused : goal.returns-in-Some-refusal_of_active-clause-refused
returns-in-Some-refusal_of_active-clause-refused c =
    passes _ (sym c.if-not-is_subset.false ∙ c.is_subset.ensures ∙ ap (is_within c.in-Some-slots_of.active) (c.closure.ensures.value ∙ ap (λ (s : PolicyState). closed s.order c.in-Some.held) c.self.view_is))
    (found _ (c.in-Some-refusal_of_active.ensures (c.args.self.now.last + 1) c.args.user))
    ∙ by_active c.args.self.now c.args.user c.args.roles.now c.in-Some.held c.in-Some-slots_of.active c.in-Some.ensures c.in-Some-slots_of.ensures.there c.in-Some-slots_of.ensures.slots

pub returns-clause-session : goal.returns-clause-session
returns-clause-session c = c.of.ensures ∙ ap (λ (active : ℕ). record { user = c.args.user; active = active }) c.in-Some-slots_of.ensures.slots

pub returns-clause-whole : goal.returns-clause-whole
returns-clause-whole c =
    let now : PolicyState = c.args.self.now in
    sym (c.in_default-refusal_of_active.ensures (now.last + 1) c.args.user
    ∙ ap (λ (active : ℕ). broken_dsd (with_session now (now.last + 1) (record { user = c.args.user; active = active }))) c.in-Some-slots_of.ensures.slots)
