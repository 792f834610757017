-- Questions, which change nothing: why one is not answered, the first reason that holds, and the answers.
use Rattle.std.specs.Prelude.{◌≡◌, ℕ, Bool, not, if◌then◌else◌, List, Option, Some, None, ⊤}
use Rattle.std.specs.Option.{option_or}
use Rattle.policy_core.specs.State.{PolicyState, is_session, is_user, is_role}
use Rattle.policy_core.specs.Access.{has_access}
use Rattle.policy_core.specs.Reviews.{assigned_users, assigned_roles, session_roles}
use Rattle.permission_core.specs.declared.objects.Operation.{Operation}
use Rattle.permission_core.specs.declared.objects.Operation.TheVariants as operations
use Rattle.permission_core.specs.declared.objects.Object.{Object}
use Rattle.permission_core.specs.declared.objects.Object.TheVariants as objects
use Rattle.board_rules.specs.declared.reply.AskFault.{AskFault}
use Rattle.board_rules.specs.declared.reply.AskFault.TheVariants.{NoSession, NoAccess, NoUser, NoRole, NotThere, NoMemory}
use Rattle.board_rules.specs.declared.review.Review.{Review}
use Rattle.board_rules.specs.declared.review.Review.TheVariants.{Users, Roles, Active}
use Rattle.board_rules.specs.State.{BoardState}

-- A fault is the one that is due, or running out of memory, which may happen at any time.
abbrev pub MayAsk : Option AskFault → AskFault → Type 0
MayAsk expected NoMemory = ⊤
MayAsk expected fault = expected ≡ Some fault

-- a listing needs a session that exists
unfoldable pub list_fault : BoardState → ℕ → Option AskFault
list_fault state session = if is_session state.policy session then None else Some NoSession

-- an audit, and a review, also `audit` on the board
unfoldable pub audit_fault : BoardState → ℕ → Option AskFault
audit_fault state session =
    if not (is_session state.policy session) then Some NoSession
    else if not (has_access state.policy session operations.Audit objects.Board) then Some NoAccess
    else None

-- what is reviewed is there
abbrev pub missing : PolicyState → Review → Option AskFault
missing policy (Users role) = if is_role policy role then None else Some NoRole
missing policy (Roles user) = if is_user policy user then None else Some NoUser
missing policy (Active number) = if is_session policy number then None else Some NotThere

unfoldable pub review_fault : BoardState → ℕ → Review → Option AskFault
review_fault state session which = option_or (audit_fault state session) (missing state.policy which)

-- the names that a review shows
abbrev pub review_of : PolicyState → Review → List (List ℕ)
review_of policy (Users role) = assigned_users policy role
review_of policy (Roles user) = assigned_roles policy user
review_of policy (Active number) = session_roles policy number

-- CheckAccess of a session in the state; it is false for a session or an object that is not there
abbrev pub check_of : BoardState → ℕ → Operation → Object → Bool
check_of state session operation object = has_access state.policy session operation object
