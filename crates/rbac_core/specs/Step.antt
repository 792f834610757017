-- One step of a policy: the guard, the refusals of the command, the state after it and the answer.
use Rattle.std.specs.Prelude.{◌≡◌, ℕ, ◌+◌, Bool, true, false, not, ◌&&◌, if◌then◌else◌, List, Option, Some, None, bytes_eq, Result, Ok, Err, ⊤}
use Rattle.std.specs.Option.{option_or}
use Rattle.permission_core.specs.declared.objects.Operation.TheVariants.{Admin}
use Rattle.permission_core.specs.declared.objects.Object.TheVariants.{Board}
use Rattle.policy_core.specs.declared.refusal.Refusal.{Refusal}
use Rattle.policy_core.specs.declared.refusal.Refusal.TheVariants.{NoSession, NoAccess, NoMemory}
use Rattle.policy_core.specs.State.{PolicyState, is_session, user_of}
use Rattle.policy_core.specs.Access.{has_access}
use Rattle.policy_core.specs.Commands.{activate_refusal, activated, add_member_refusal, add_role_refusal, add_user_refusal, assign_refusal, assigned, cardinality_refusal, close_refusal, create_set_refusal, deactivate_refusal, deactivated, deassign_refusal, deassigned, delete_member_refusal, delete_role_refusal, delete_set_refusal, delete_user_refusal, grant_refusal, granted, inherit_refusal, inherited, member_added, member_gone, migrate_refusal, migrated, open_refusal, opened, revoked, role_added, role_gone, set_created, set_gone, set_numbered, shut, uninherit_refusal, uninherited, user_added, user_gone}
use Rattle.rbac_core.specs.declared.command.Command.{Command}
use Rattle.rbac_core.specs.declared.command.Command.TheVariants.{AddUser, DeleteUser, AddRole, DeleteRole, AssignUser, DeassignUser, GrantPermission, RevokePermission, AddInheritance, DeleteInheritance, CreateSet, AddSetMember, DeleteSetMember, DeleteSet, SetCardinality, CreateSession, DeleteSession, AddActiveRole, DropActiveRole, Migrate}
use Rattle.rbac_core.specs.declared.command.Outcome.{Outcome}
use Rattle.rbac_core.specs.declared.command.Outcome.TheVariants.{Done, Session}

-- the user whom a session command concerns: the named one, or that of the named session
abbrev pub concerned : PolicyState → Command → Option (List ℕ)
concerned p (CreateSession user roles) = Some user
concerned p (DeleteSession session) = user_of p session
concerned p (AddActiveRole session role) = user_of p session
concerned p (DropActiveRole session role) = user_of p session
concerned p _ = None

abbrev pub is_same_user : Option (List ℕ) → Option (List ℕ) → Bool
is_same_user (Some a) (Some b) = bytes_eq a b
is_same_user _ _ = false

-- the acting session belongs to the user whom a session command concerns
abbrev pub is_own : PolicyState → ℕ → Command → Bool
is_own p session command = is_same_user (user_of p session) (concerned p command)

-- why the session may not give the command, where it is known whether it may `admin` the board
unfoldable pub guard_by : Bool → PolicyState → ℕ → Command → Option Refusal
guard_by admin p session command =
    if not (is_session p session) then Some NoSession
    else if not admin && not (is_own p session command) then Some NoAccess
    else None

-- the acting session needs `admin` on the board, or has to belong to the user whom a session command concerns
abbrev pub guard : PolicyState → ℕ → Command → Option Refusal
guard p session command = guard_by (has_access p session Admin Board) p session command

-- why the command is refused, whoever gives it
abbrev pub refusal_of : PolicyState → Command → Option Refusal
refusal_of p (AddUser user) = add_user_refusal p user
refusal_of p (DeleteUser user) = delete_user_refusal p user
refusal_of p (AddRole role) = add_role_refusal p role
refusal_of p (DeleteRole role) = delete_role_refusal p role
refusal_of p (AssignUser user role) = assign_refusal p user role
refusal_of p (DeassignUser user role) = deassign_refusal p user role
refusal_of p (GrantPermission role operation range) = grant_refusal p role range
refusal_of p (RevokePermission role operation range) = grant_refusal p role range
refusal_of p (AddInheritance senior junior) = inherit_refusal p senior junior
refusal_of p (DeleteInheritance senior junior) = uninherit_refusal p senior junior
refusal_of p (CreateSet kind name number roles) = create_set_refusal kind p name number roles
refusal_of p (AddSetMember kind name role) = add_member_refusal kind p name role
refusal_of p (DeleteSetMember kind name role) = delete_member_refusal kind p name role
refusal_of p (DeleteSet kind name) = delete_set_refusal kind p name
refusal_of p (SetCardinality kind name number) = cardinality_refusal kind p name number
refusal_of p (CreateSession user roles) = open_refusal p user roles
refusal_of p (DeleteSession session) = close_refusal p session
refusal_of p (AddActiveRole session role) = activate_refusal p session role
refusal_of p (DropActiveRole session role) = deactivate_refusal p session role
refusal_of p Migrate = migrate_refusal p.counting

-- the state after a command that is not refused
abbrev pub after : PolicyState → Command → PolicyState
after p (AddUser user) = user_added p user
after p (DeleteUser user) = user_gone p user
after p (AddRole role) = role_added p role
after p (DeleteRole role) = role_gone p role
after p (AssignUser user role) = assigned p user role
after p (DeassignUser user role) = deassigned p user role
after p (GrantPermission role operation range) = granted p role operation range
after p (RevokePermission role operation range) = revoked p role operation range
after p (AddInheritance senior junior) = inherited p senior junior
after p (DeleteInheritance senior junior) = uninherited p senior junior
after p (CreateSet kind name number roles) = set_created kind p name number roles
after p (AddSetMember kind name role) = member_added kind p name role
after p (DeleteSetMember kind name role) = member_gone kind p name role
after p (DeleteSet kind name) = set_gone kind p name
after p (SetCardinality kind name number) = set_numbered kind p name number
after p (CreateSession user roles) = opened p user roles
after p (DeleteSession session) = shut p session
after p (AddActiveRole session role) = activated p session role
after p (DropActiveRole session role) = deactivated p session role
after p Migrate = migrated p

-- carrying out the command may take memory
abbrev pub takes_memory : Command → Bool
takes_memory (AddUser user) = true
takes_memory (AddRole role) = true
takes_memory (AddInheritance senior junior) = true
takes_memory (CreateSet kind name number roles) = true
takes_memory (CreateSession user roles) = true
takes_memory _ = false

-- what such a command answers
abbrev pub outcome_of : PolicyState → Command → Outcome
outcome_of p (CreateSession user roles) = Session (p.last + 1)
outcome_of p _ = Done

-- the state and the answer: the first refusal, or the state after the command and its outcome
abbrev pub answered : PolicyState → Option Refusal → PolicyState → Outcome → PolicyState × Result Outcome Refusal
answered p None next outcome = (next, Ok outcome)
answered p (Some e) next outcome = (p, Err e)

unfoldable pub step : PolicyState → ℕ → Command → PolicyState × Result Outcome Refusal
step p session command = answered p (option_or (guard p session command) (refusal_of p command)) (after p command) (outcome_of p command)

-- the step is refused for that reason, unless the reason is running out of memory
abbrev pub IsRefused : Refusal → PolicyState × Result Outcome Refusal → PolicyState → Type 0
IsRefused NoMemory answer p = ⊤
IsRefused e answer p = answer ≡ (p, Err e)
