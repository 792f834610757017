use Rattle.std.proofs.Common.{◌≡◌, ℕ, List, ◌++◌, Result, rules, append_assoc, subst, sym}
use Rattle.std.specs.Prelude.{OnOk, OnErr}
use Rattle.rbac_core.specs.declared.command.Command.{Command as PolicyCommand}
use Rattle.board_lines.specs.Replies.{AppendsPrefix}
use Rattle.board_lines.specs.Saying.{behind, after_number, policy_said}
use Rattle.board_lines.proofs.Starting.{on_err, cut_more, err_then}
use Rattle.board_lines.proofs.spelling.push_policy.Goals as goal

said_ok : {A E : Type 0} (r : Result A E) (old new : List ℕ) (s : ℕ) (x y : PolicyCommand) → x ≡ y → OnOk r (new ≡ old ++ after_number (policy_said s y)) → OnOk r (new ≡ old ++ after_number (policy_said s x))
said_ok r old new s x y e h = subst (λ (z : PolicyCommand). OnOk r (new ≡ old ++ after_number (policy_said s z))) (sym e) h

said_left : {A E : Type 0} (r : Result A E) (old new : List ℕ) (s : ℕ) (x y : PolicyCommand) → x ≡ y → OnErr r (AppendsPrefix old (after_number (policy_said s y)) new) → OnErr r (AppendsPrefix old (after_number (policy_said s x)) new)
said_left r old new s x y e h = subst (λ (z : PolicyCommand). OnErr r (AppendsPrefix old (after_number (policy_said s z)) new)) (sym e) h

pub returns-in_err-push_one_name-in-CreateSession-clause-left : goal.returns-in_err-push_one_name-in-CreateSession-clause-left
returns-in_err-push_one_name-in-CreateSession-clause-left c = on_err _ (cut_more _ _ (behind c.in-CreateSession.roles) _ _ c.in_err-push_one_name-in-CreateSession.ensures.left (rw c.in-CreateSession.is (search (rules, append_assoc))))

pub returns-in_ok-push_one_name-in-CreateSession-clause-left : goal.returns-in_ok-push_one_name-in-CreateSession-clause-left
returns-in_ok-push_one_name-in-CreateSession-clause-left c = err_then _ _ _ _ _ _ _ c.in_ok-push_one_name-in-CreateSession.ensures.ok c.push_names.ensures.left (search (rules, append_assoc))

pub returns-in-AddUser : goal.returns-in-AddUser
returns-in-AddUser c = record { ok = said_ok _ _ _ _ _ _ c.in-AddUser.is c.push_one_name.ensures.ok; left = said_left _ _ _ _ _ _ c.in-AddUser.is c.push_one_name.ensures.left }

pub returns-in-DeleteUser : goal.returns-in-DeleteUser
returns-in-DeleteUser c = record { ok = said_ok _ _ _ _ _ _ c.in-DeleteUser.is c.push_one_name-in-DeleteUser.ensures.ok; left = said_left _ _ _ _ _ _ c.in-DeleteUser.is c.push_one_name-in-DeleteUser.ensures.left }

pub returns-in-AddRole : goal.returns-in-AddRole
returns-in-AddRole c = record { ok = said_ok _ _ _ _ _ _ c.in-AddRole.is c.push_one_name-in-AddRole.ensures.ok; left = said_left _ _ _ _ _ _ c.in-AddRole.is c.push_one_name-in-AddRole.ensures.left }

pub returns-in-DeleteRole : goal.returns-in-DeleteRole
returns-in-DeleteRole c = record { ok = said_ok _ _ _ _ _ _ c.in-DeleteRole.is c.push_one_name-in-DeleteRole.ensures.ok; left = said_left _ _ _ _ _ _ c.in-DeleteRole.is c.push_one_name-in-DeleteRole.ensures.left }

pub returns-in-AssignUser : goal.returns-in-AssignUser
returns-in-AssignUser c = record { ok = said_ok _ _ _ _ _ _ c.in-AssignUser.is c.push_two_names.ensures.ok; left = said_left _ _ _ _ _ _ c.in-AssignUser.is c.push_two_names.ensures.left }

pub returns-in-DeassignUser : goal.returns-in-DeassignUser
returns-in-DeassignUser c = record { ok = said_ok _ _ _ _ _ _ c.in-DeassignUser.is c.push_two_names-in-DeassignUser.ensures.ok; left = said_left _ _ _ _ _ _ c.in-DeassignUser.is c.push_two_names-in-DeassignUser.ensures.left }

pub returns-in-GrantPermission : goal.returns-in-GrantPermission
returns-in-GrantPermission c = record { ok = said_ok _ _ _ _ _ _ c.in-GrantPermission.is c.push_permission.ensures.ok; left = said_left _ _ _ _ _ _ c.in-GrantPermission.is c.push_permission.ensures.left }

pub returns-in-RevokePermission : goal.returns-in-RevokePermission
returns-in-RevokePermission c = record { ok = said_ok _ _ _ _ _ _ c.in-RevokePermission.is c.push_permission-in-RevokePermission.ensures.ok; left = said_left _ _ _ _ _ _ c.in-RevokePermission.is c.push_permission-in-RevokePermission.ensures.left }

pub returns-in-AddInheritance : goal.returns-in-AddInheritance
returns-in-AddInheritance c = record { ok = said_ok _ _ _ _ _ _ c.in-AddInheritance.is c.push_two_names-in-AddInheritance.ensures.ok; left = said_left _ _ _ _ _ _ c.in-AddInheritance.is c.push_two_names-in-AddInheritance.ensures.left }

pub returns-in-DeleteInheritance : goal.returns-in-DeleteInheritance
returns-in-DeleteInheritance c = record { ok = said_ok _ _ _ _ _ _ c.in-DeleteInheritance.is c.push_two_names-in-DeleteInheritance.ensures.ok; left = said_left _ _ _ _ _ _ c.in-DeleteInheritance.is c.push_two_names-in-DeleteInheritance.ensures.left }

pub returns-in-DeleteSession : goal.returns-in-DeleteSession
returns-in-DeleteSession c = record { ok = said_ok _ _ _ _ _ _ c.in-DeleteSession.is c.push_numbers.ensures.ok; left = said_left _ _ _ _ _ _ c.in-DeleteSession.is c.push_numbers.ensures.left }

pub returns-in-Migrate : goal.returns-in-Migrate
returns-in-Migrate c = record { ok = said_ok _ _ _ _ _ _ c.in-Migrate.is c.push_text.ensures.ok; left = said_left _ _ _ _ _ _ c.in-Migrate.is c.push_text.ensures.left }

pub returns-in-AddActiveRole : goal.returns-in-AddActiveRole
returns-in-AddActiveRole c = record { ok = said_ok _ _ _ _ _ _ c.in-AddActiveRole.is c.push_number_and_name.ensures.ok; left = said_left _ _ _ _ _ _ c.in-AddActiveRole.is c.push_number_and_name.ensures.left }

pub returns-in-DropActiveRole : goal.returns-in-DropActiveRole
returns-in-DropActiveRole c = record { ok = said_ok _ _ _ _ _ _ c.in-DropActiveRole.is c.push_number_and_name-in-DropActiveRole.ensures.ok; left = said_left _ _ _ _ _ _ c.in-DropActiveRole.is c.push_number_and_name-in-DropActiveRole.ensures.left }
