-- Why a session may not audit a board.
use Rattle.std.proofs.Common.{◌≡◌, ℕ, Bool, true, false, Some, None, sym, ap, ◌∙◌}
use Rattle.std.specs.Prelude.{not, cond}
use Rattle.policy_core.specs.State.{is_session}
use Rattle.policy_core.specs.Access.{has_access}
use Rattle.permission_core.specs.declared.objects.Operation.TheVariants as operations
use Rattle.permission_core.specs.declared.objects.Object.TheVariants as objects
use Rattle.board_rules.specs.declared.reply.AskFault.TheVariants.{NoSession, NoAccess}
use Rattle.board_rules.specs.Questions.{audit_fault}
use Rattle.board_rules.specs.State.{BoardState}

module _ (state : BoardState) (session : ℕ) (there : is_session state.policy session ≡ true) where
  pub barred : has_access state.policy session operations.Audit objects.Board ≡ false → Some NoAccess ≡ audit_fault state session
  unfolding audit_fault
  barred may =
      sym (ap (λ (x : Bool). cond (not x) (Some NoSession) (cond (not (has_access state.policy session operations.Audit objects.Board)) (Some NoAccess) None)) there
      ∙ ap (λ (x : Bool). cond (not x) (Some NoAccess) None) may)

  pub allowed : has_access state.policy session operations.Audit objects.Board ≡ true → None ≡ audit_fault state session
  unfolding audit_fault
  allowed may =
      sym (ap (λ (x : Bool). cond (not x) (Some NoSession) (cond (not (has_access state.policy session operations.Audit objects.Board)) (Some NoAccess) None)) there
      ∙ ap (λ (x : Bool). cond (not x) (Some NoAccess) None) may)
