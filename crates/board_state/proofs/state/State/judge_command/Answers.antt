use Rattle.std.proofs.Common.{◌≡◌, None, sym, ap, subst, ◌∙◌, refl}
use Rattle.rbac_core.specs.Step.{guard}
use Rattle.rbac_core.specs.Tried.{Tried}
use Rattle.permission_table.specs.Compiled.{AreCompiled, HasSizes}
use Rattle.std.specs.Result.{IfOk}
use Rattle.board_rules.specs.Policies.{policy_reply, policy_after}
use Rattle.board_state.specs.Changes.{PolicyWillBe}
use Rattle.board_state.specs.Held.{HeldState}
use Rattle.board_state.proofs.Commanding.{guarded, refused_call}
use Rattle.board_state.proofs.state.State.judge_command.Goals as goal

pub try_command-requires-clause-compiled : goal.try_command-requires-clause-compiled
try_command-requires-clause-compiled c =
    subst (λ (h : HeldState). ∥ AreCompiled h.tables h.policy.now ∥₁) (sym c.self.view_is) c.requires.compiled

pub returns-in-Some-clause-reply : goal.returns-in-Some-clause-reply
returns-in-Some-clause-reply c =
    let a = c.args in
    let held = a.self.now in
    let p = held.policy.now in
    (refused_call p held.policy held.tables a.session a.command.now c.in-Some.refusal c.refused.result (λ _. guarded p a.session a.command.now c.in-Some.refusal (sym c.in-Some.ensures.refused))
    refl c.requires.compiled c.requires.sizes c.refused.ensures.due c.refused.ensures.reply c.refused.ensures.change).0

pub returns-in-Some-clause-change : goal.returns-in-Some-clause-change
returns-in-Some-clause-change c =
    let a = c.args in
    let held = a.self.now in
    let p = held.policy.now in
    let compiled = subst (λ (h : HeldState). ∥ AreCompiled h.tables p ∥₁) (sym c.self.view_is) c.requires.compiled in
    let sizes = subst (λ (h : HeldState). HasSizes p h.tables) (sym c.self.view_is) c.requires.sizes in
    let now : c.give_up.new.self.now ≡ p = ap (λ (t : Tried). t.now) c.give_up.ensures ∙ ap (λ (h : HeldState). h.policy.now) c.self.view_is in
    (refused_call p c.give_up.new.self c.self.inside.tables a.session a.command.now c.in-Some.refusal c.refused.result (λ _. guarded p a.session a.command.now c.in-Some.refusal (sym c.in-Some.ensures.refused))
    now compiled sizes c.refused.ensures.due c.refused.ensures.reply c.refused.ensures.change).1

pub returns-clause-reply : goal.returns-clause-reply
returns-clause-reply c =
    let a = c.args in
    let free = subst (λ (h : HeldState). guard h.policy.now a.session a.command.now ≡ None) (sym c.self.view_is) (sym c.in_default.ensures.refused) in
    subst (λ (h : HeldState). IfOk c.try_command.result (λ r. r.0 ≡ policy_reply h.policy.now a.session a.command.now)) c.self.view_is (c.try_command.ensures.reply a.session free)

pub returns-clause-change : goal.returns-clause-change
returns-clause-change c =
    let a = c.args in
    let free = subst (λ (h : HeldState). guard h.policy.now a.session a.command.now ≡ None) (sym c.self.view_is) (sym c.in_default.ensures.refused) in
    subst (λ (h : HeldState). IfOk c.try_command.result (λ r. PolicyWillBe c.try_command.new.policy c.try_command.new.tables r.1 (policy_after h.policy.now a.session a.command.now))) c.self.view_is (c.try_command.ensures.change a.session free)
