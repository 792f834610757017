use Rattle.std.proofs.Common.{ℕ, Option, refl, sym, ap, ap₂, ◌∙◌}
use Rattle.std.specs.Prelude.{is_some, unwrap_or}
use Rattle.role_hierarchy.specs.Roles.{with_role}
use Rattle.policy_core.specs.State.{broken_ssd, with_roles}
use Rattle.policy_core.specs.Commands.{assign_refusal}
use Rattle.policy_core.proofs.CommandLaws.{given_there}
use Rattle.policy_core.proofs.TestLaws.{fails, passes, holds, misses, by_held}
use Rattle.policy_core.proofs.policy.Policy.judge_assign.Goals as goal

pub returns-clause-used : goal.returns-clause-used
returns-clause-used c =
    given_there c.args.self.now c.args.self.now refl c.is_policy.ensures.whole c.args.user c.args.role c.in-Some-slot_of.slot (sym c.in-Some.ensures.there) c.in-Some-slot_of.ensures

pub returns-in_default-clause-refused : goal.returns-in_default-clause-refused
unfolding assign_refusal
returns-in_default-clause-refused c = fails _ c.in_default.ensures.there

pub returns-in_default-slot_of-clause-refused : goal.returns-in_default-slot_of-clause-refused
unfolding assign_refusal
returns-in_default-slot_of-clause-refused c = passes _ c.in-Some.ensures.there (fails _ (ap is_some c.in_default-slot_of.ensures))

pub returns-then-contains-clause-refused : goal.returns-then-contains-clause-refused
returns-then-contains-clause-refused c = holds _ (sym c.if-contains.true ∙ c.contains.ensures) ∙ by_held c.args.self.now c.args.user c.args.role c.held_at-held.result c.in-Some-slot_of.slot (sym c.held_at-held.ensures) c.in-Some-slot_of.ensures

pub returns-in-Some-refusal_of_role-clause-refused : goal.returns-in-Some-refusal_of_role-clause-refused
returns-in-Some-refusal_of_role-clause-refused c =
    misses _ (sym c.if-contains.false ∙ c.contains.ensures) c.in-Some-refusal_of_role.ensures
    ∙ by_held c.args.self.now c.args.user c.args.role c.held_at-held.result c.in-Some-slot_of.slot (sym c.held_at-held.ensures) c.in-Some-slot_of.ensures

pub returns-clause-refused : goal.returns-clause-refused
returns-clause-refused c =
    misses _ (sym c.if-contains.false ∙ c.contains.ensures) c.in_default-refusal_of_role.ensures
    ∙ by_held c.args.self.now c.args.user c.args.role c.held_at-held.result c.in-Some-slot_of.slot (sym c.held_at-held.ensures) c.in-Some-slot_of.ensures

pub returns-clause-whole : goal.returns-clause-whole
returns-clause-whole c =
    sym (c.in_default-refusal_of_role.ensures
    ∙ ap₂ (λ (o r : Option ℕ). broken_ssd (with_roles c.args.self.now c.args.user (with_role (unwrap_or o 0) (unwrap_or r 0)))) (sym c.held_at-held.ensures) c.in-Some-slot_of.ensures)
