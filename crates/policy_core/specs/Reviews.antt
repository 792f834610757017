-- The reviews of ANSI INCITS 359-2004, 6.1: who is assigned to what, and what is active.
use Rattle.std.specs.Prelude.{ℕ, not, if◌then◌else◌, List, map, filter, Option, Some, None, bytes_eq}
use Rattle.role_hierarchy.specs.Roles.{has}
use Rattle.policy_core.specs.declared.refusal.Refusal.{Refusal}
use Rattle.policy_core.specs.declared.refusal.Refusal.TheVariants.{NoUser, NoRole, NotThere}
use Rattle.policy_core.specs.State.{PolicyState, is_session, session_of, is_user, is_role, held_by, slot_of, numbers_of}

-- AssignedUsers: in order of the users' creation
abbrev pub assigned_users : PolicyState → List ℕ → List (List ℕ)
assigned_users p role = map (λ u. u.0) (filter (λ u. has u.1 (slot_of p role)) p.users)

abbrev pub users_refusal : PolicyState → List ℕ → Option Refusal
users_refusal p role = if not (is_role p role) then Some NoRole else None

-- the names of these roles, in order of their creation
abbrev pub names_of_roles : PolicyState → ℕ → List (List ℕ)
names_of_roles p roles = map (λ r. r.0) (filter (λ r. has roles r.1) p.roles)

-- AssignedRoles
abbrev pub assigned_roles : PolicyState → List ℕ → List (List ℕ)
assigned_roles p user = names_of_roles p (held_by p user)

abbrev pub roles_refusal : PolicyState → List ℕ → Option Refusal
roles_refusal p user = if not (is_user p user) then Some NoUser else None

-- SessionRoles
abbrev pub session_roles : PolicyState → ℕ → List (List ℕ)
session_roles p number = names_of_roles p (session_of p number).active

abbrev pub active_refusal : PolicyState → ℕ → Option Refusal
active_refusal p number = if not (is_session p number) then Some NotThere else None

-- the numbers of all sessions, and of those of a user
abbrev pub all_sessions : PolicyState → List ℕ
all_sessions p = numbers_of p.sessions

abbrev pub sessions_of : PolicyState → List ℕ → List ℕ
sessions_of p user = numbers_of (filter (λ e. bytes_eq e.1.user user) p.sessions)
