use Rattle.std.proofs.Common.{◌≡◌, None, sym, ap, subst, ◌∙◌, refl}
use Rattle.std.specs.Result.{IfOk}
use Rattle.rbac_core.specs.Step.{guard}
use Rattle.rbac_core.specs.Tried.{Tried}
use Rattle.permission_table.specs.Compiled.{AreCompiled, HasSizes}
use Rattle.board_rules.specs.Policies.{policy_reply, policy_after}
use Rattle.board_state.specs.declared.change.Change.TheVariants.{Nothing}
use Rattle.board_state.specs.Changes.{PolicyWillBe}
use Rattle.board_state.specs.Held.{HeldState}
use Rattle.board_state.proofs.Commanding.{guarded, refused_alone}
use Rattle.board_state.proofs.state.State.carry_out.Goals as goal

pub keep_command-requires-clause-compiled : goal.keep_command-requires-clause-compiled
keep_command-requires-clause-compiled c =
    subst (λ (h : HeldState). ∥ AreCompiled h.tables h.policy.now ∥₁) (sym c.self.view_is) c.requires.compiled

pub returns-in-Some-clause-reply : goal.returns-in-Some-clause-reply
returns-in-Some-clause-reply c =
    let a = c.args in
    let held = a.self.now in
    let p = held.policy.now in
    (refused_alone p held.policy held.tables a.session a.command.now c.in-Some.refusal c.refused_by.result (λ _. guarded p a.session a.command.now c.in-Some.refusal (sym c.in-Some.ensures.refused))
    refl c.requires.compiled c.requires.sizes c.refused_by.ensures.due c.refused_by.ensures.reply).0

pub returns-in-Some-clause-made : goal.returns-in-Some-clause-made
returns-in-Some-clause-made c =
    let a = c.args in
    let held = a.self.now in
    let p = held.policy.now in
    let compiled = subst (λ (h : HeldState). ∥ AreCompiled h.tables p ∥₁) (sym c.self.view_is) c.requires.compiled in
    let sizes = subst (λ (h : HeldState). HasSizes p h.tables) (sym c.self.view_is) c.requires.sizes in
    let now : c.give_up.new.self.now ≡ p = ap (λ (t : Tried). t.now) c.give_up.ensures ∙ ap (λ (h : HeldState). h.policy.now) c.self.view_is in
    (refused_alone p c.give_up.new.self c.self.inside.tables a.session a.command.now c.in-Some.refusal c.refused_by.result (λ _. guarded p a.session a.command.now c.in-Some.refusal (sym c.in-Some.ensures.refused))
    now compiled sizes c.refused_by.ensures.due c.refused_by.ensures.reply).1

pub returns-clause-reply : goal.returns-clause-reply
returns-clause-reply c =
    let a = c.args in
    let free = subst (λ (h : HeldState). guard h.policy.now a.session a.command.now ≡ None) (sym c.self.view_is) (sym c.in_default.ensures.refused) in
    subst (λ (h : HeldState). IfOk c.keep_command.result (λ reply. reply ≡ policy_reply h.policy.now a.session a.command.now)) c.self.view_is (c.keep_command.ensures.reply a.session free)

pub returns-clause-made : goal.returns-clause-made
returns-clause-made c =
    let a = c.args in
    let free = subst (λ (h : HeldState). guard h.policy.now a.session a.command.now ≡ None) (sym c.self.view_is) (sym c.in_default.ensures.refused) in
    subst (λ (h : HeldState). IfOk c.keep_command.result (λ _. PolicyWillBe c.keep_command.new.policy c.keep_command.new.tables Nothing (policy_after h.policy.now a.session a.command.now))) c.self.view_is (c.keep_command.ensures.made a.session free)
