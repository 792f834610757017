use Rattle.std.proofs.Common.{sym, ap, ◌∙◌, subst}
use Rattle.policy_core.specs.State.{PolicyState, is_session}
use Rattle.board_rules.specs.History.{state_after}
use Rattle.board_state.specs.Held.{Holds}
use Rattle.board_core.specs.Kept.{CoreState}
use Rattle.board_core.proofs.Asking.{barred, allowed}
use Rattle.board_core.proofs.body.Core.audit_fault.Goals as goal

pub returns-then-not-check : goal.returns-then-not-check
returns-then-not-check c s kept =
    let core = c.args.self.now in
    let state = state_after s core.journal in
    let policy = c.policy.ensures ∙ (ap (λ (x : CoreState). x.held.policy.now) c.self.view_is ∙ kept.held.policy) in
    let may = c.check.ensures s state (subst (λ (x : CoreState). Holds s x.held state) (sym c.self.view_is) kept.held) in
    barred state c.args.session (sym (c.is_session.ensures ∙ ap (λ (p : PolicyState). is_session p c.args.session) policy) ∙ c.if-not-is_session.false)
    (sym may ∙ c.if-not-check.true)

pub returns : goal.returns
returns c s kept =
    let core = c.args.self.now in
    let state = state_after s core.journal in
    let policy = c.policy.ensures ∙ (ap (λ (x : CoreState). x.held.policy.now) c.self.view_is ∙ kept.held.policy) in
    let may = c.check.ensures s state (subst (λ (x : CoreState). Holds s x.held state) (sym c.self.view_is) kept.held) in
    allowed state c.args.session (sym (c.is_session.ensures ∙ ap (λ (p : PolicyState). is_session p c.args.session) policy) ∙ c.if-not-is_session.false)
    (sym may ∙ c.if-not-check.false)
