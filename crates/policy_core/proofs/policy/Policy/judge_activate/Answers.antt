use Rattle.std.proofs.Common.{ℕ, ◌&&◌, Option, [], refl, sym, ap, ◌∙◌}
use Rattle.std.specs.Prelude.{is_some, unwrap_or}
use Rattle.role_hierarchy.specs.Roles.{has}
use Rattle.policy_core.specs.declared.session.Session.{Session}
use Rattle.policy_core.specs.State.{PolicyState, broken_dsd, slot_of, with_session}
use Rattle.policy_core.specs.Commands.{activate_refusal}
use Rattle.policy_core.proofs.CommandLaws.{activated_there}
use Rattle.policy_core.proofs.TestLaws.{fails, passes, holds, misses, by_session, with_active}
use Rattle.policy_core.proofs.policy.Policy.judge_activate.Goals as goal

pub returns-clause-used : goal.returns-clause-used
returns-clause-used c =
    activated_there c.args.self.now c.args.self.now refl c.is_policy.ensures.whole c.args.number c.in-Some-session_of.session c.args.role c.in-Some.slot c.of.result.active c.in-Some-session_of.ensures c.in-Some.ensures
    (ap (λ n. n.active) c.of.ensures ∙ c.insert.ensures)

pub returns-in_default-clause-refused : goal.returns-in_default-clause-refused
unfolding activate_refusal
returns-in_default-clause-refused c = fails _ (ap is_some c.in_default.ensures)

pub returns-in_default-session_of-clause-refused : goal.returns-in_default-session_of-clause-refused
unfolding activate_refusal
returns-in_default-session_of-clause-refused c =
    passes _ (ap is_some c.in-Some.ensures)
    (misses _ (ap (λ (o : Option Session). is_some o && has (unwrap_or o (record { user = []; active = 0 })).active (slot_of c.args.self.now c.args.role)) c.in_default-session_of.ensures)
    (fails _ (ap is_some c.in_default-session_of.ensures)))

pub returns-then-contains-clause-refused : goal.returns-then-contains-clause-refused
returns-then-contains-clause-refused c =
    holds _ (sym c.if-contains.true ∙ c.contains.ensures) ∙ by_session c.args.self.now c.args.number c.args.role c.in-Some.slot c.in-Some-session_of.session c.in-Some.ensures c.in-Some-session_of.ensures

pub returns-then-not-contains-clause-refused : goal.returns-then-not-contains-clause-refused
returns-then-not-contains-clause-refused c =
    misses _ (sym c.if-contains.false ∙ c.contains.ensures) (fails _ (sym c.if-not-contains.true ∙ c.contains-2.ensures ∙ ap (λ roles. has roles c.in-Some.slot) c.authorized_for.ensures))
    ∙ by_session c.args.self.now c.args.number c.args.role c.in-Some.slot c.in-Some-session_of.session c.in-Some.ensures c.in-Some-session_of.ensures

pub returns-in-Some-refusal_of_activated-clause-refused : goal.returns-in-Some-refusal_of_activated-clause-refused
returns-in-Some-refusal_of_activated-clause-refused c =
    misses _ (sym c.if-contains.false ∙ c.contains.ensures)
    (passes _ (sym c.if-not-contains.false ∙ c.contains-2.ensures ∙ ap (λ roles. has roles c.in-Some.slot) c.authorized_for.ensures) c.in-Some-refusal_of_activated.ensures)
    ∙ by_session c.args.self.now c.args.number c.args.role c.in-Some.slot c.in-Some-session_of.session c.in-Some.ensures c.in-Some-session_of.ensures

pub returns-clause-refused : goal.returns-clause-refused
returns-clause-refused c =
    misses _ (sym c.if-contains.false ∙ c.contains.ensures)
    (passes _ (sym c.if-not-contains.false ∙ c.contains-2.ensures ∙ ap (λ roles. has roles c.in-Some.slot) c.authorized_for.ensures) c.in_default-refusal_of_activated.ensures)
    ∙ by_session c.args.self.now c.args.number c.args.role c.in-Some.slot c.in-Some-session_of.session c.in-Some.ensures c.in-Some-session_of.ensures

pub returns-clause-session : goal.returns-clause-session
returns-clause-session c =
    ap (with_session c.args.self.now c.args.number) (c.of.ensures ∙ ap (λ (active : ℕ). record { user = c.in-Some-session_of.session.user; active = active }) c.insert.ensures)
    ∙ with_active c.args.self.now c.args.number c.args.role c.in-Some.slot c.in-Some-session_of.session c.in-Some.ensures c.in-Some-session_of.ensures

pub returns-clause-whole : goal.returns-clause-whole
returns-clause-whole c =
    sym (c.in_default-refusal_of_activated.ensures
    ∙ ap (λ (q : PolicyState). broken_dsd q) (with_active c.args.self.now c.args.number c.args.role c.in-Some.slot c.in-Some-session_of.session c.in-Some.ensures c.in-Some-session_of.ensures))
