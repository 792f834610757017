use Rattle.std.proofs.Common.{rules, ◌≡◌, ◌∙◌, Bool, sym, ap}
use Rattle.permission_core.specs.declared.objects.Operation.TheVariants as operations
use Rattle.permission_core.specs.declared.objects.Object.TheVariants as objects
use Rattle.policy_core.specs.State.{PolicyState}
use Rattle.rbac_core.specs.Step.{guard_by}
use Rattle.board_state.proofs.Commanding.{allows_access, allowed_open, admin_guard}
use Rattle.board_state.proofs.state.State.command_guard.Goals as goal

pub returns-then-admin-clause-refused : goal.returns-then-admin-clause-refused
returns-then-admin-clause-refused c =
    let held = c.args.self.now in
    let session = c.args.session in
    let may = sym c.may-admin.ensures.value ∙ c.if-admin.true in
    sym (ap (λ (b : Bool). guard_by b held.policy.now session c.args.command.now) (sym (allows_access held.tables held.policy.now c.requires session operations.Admin objects.Board) ∙ may)
    ∙ admin_guard held.policy.now session c.args.command.now
    (allowed_open held.tables held.policy.now c.requires session operations.Admin objects.Board may))

pub returns-clause-refused : goal.returns-clause-refused
returns-clause-refused c =
    let held = c.args.self.now in
    let same = c.may-admin.ensures.value ∙ allows_access held.tables held.policy.now c.requires c.args.session operations.Admin objects.Board in
    let policy : c.policy.result.now ≡ held.policy.now = search rules in
    c.guard_by.ensures ∙ ap (λ (p : PolicyState). guard_by c.may-admin.result p c.args.session c.args.command.now) policy
    ∙ ap (λ (b : Bool). guard_by b held.policy.now c.args.session c.args.command.now) same
