-- Each command of ANSI INCITS 359-2004 on a policy: why it is refused, the first reason that holds, and the state after it.
use Rattle.std.specs.Prelude.{◌≡◌, ℕ, ◌+◌, not, ◌&&◌, ◌||◌, nat_le, if◌then◌else◌, List, map, Option, Some, None, bit_and, bytes_eq, nat_eq, is_some, is_none, unwrap_or, ⊤, length, fold, filter}
use Rattle.std.specs.List.{list_all}
use Rattle.std.specs.Option.{option_or, option_map_or}
use Rattle.std.specs.Map.{lookup, remove_entry}
use Rattle.limits.specs.declared.TheConstants.{MOST_SESSIONS, MOST_SETS, MOST_USERS}
use Rattle.indexmap.specs.IndexMap.{insert_entry}
use Rattle.role_hierarchy.specs.Roles.{has, with_role, without, is_within, first_free}
use Rattle.role_hierarchy.specs.Order.{Order, stands, with_slot, with_pair, without_pair, without_slot}
use Rattle.role_hierarchy.specs.Below.{closed, juniors_of}
use Rattle.separation_core.specs.Groups.{Groups, with_set, new_refusal, is_in_some, first_broken, limit_of, with_member, without_member, with_number, without_set, add_refusal, drop_refusal, set_refusal, delete_refusal}
use Rattle.separation_core.specs.declared.sets.SetFault.{SetFault}
use Rattle.separation_core.specs.declared.sets.SetFault.TheVariants as fault
use Rattle.permission_core.specs.declared.objects.Operation.{Operation}
use Rattle.permission_core.specs.declared.objects.ObjectRange.{ObjectRange}
use Rattle.permission_core.specs.Objects.{with_range, without_range, first_of, size_of, is_bad_range}
use Rattle.permission_core.specs.Permissions.{rows_cleared}
use Rattle.policy_core.specs.declared.refusal.Refusal.{Refusal}
use Rattle.policy_core.specs.declared.refusal.Refusal.TheVariants.{NoUser, NoRole, BadObject, Cycle, InSet, Number, NoSet, Already, NotThere, NotAuthorized, Full, NoMemory}
use Rattle.policy_core.specs.declared.session.Session.{Session}
use Rattle.policy_core.specs.declared.session.Counting.{Counting}
use Rattle.policy_core.specs.declared.session.Counting.TheVariants.{Active, Inherited}
use Rattle.policy_core.specs.declared.separation.Separation.{Separation}
use Rattle.policy_core.specs.Access.{row_of, with_row}
use Rattle.policy_core.specs.Kinds.{sets_of, with_sets, broken_by}
use Rattle.policy_core.specs.State.{PolicyState, is_session, session_of, is_user, is_role, held_by, slot_of, with_roles, with_session, broken_ssd, broken_dsd, broken}

-- A refusal is the one that is due, or running out of memory.
abbrev pub Says : Refusal → Option Refusal → Type 0
Says NoMemory refusal = ⊤
Says e refusal = refusal ≡ Some e

-- AddUser (6.1)
unfoldable pub add_user_refusal : PolicyState → List ℕ → Option Refusal
add_user_refusal p user =
    if is_user p user then Some Already
    else if nat_le MOST_USERS (length p.users) then Some Full
    else None

abbrev pub user_added : PolicyState → List ℕ → PolicyState
user_added p user = with_roles p user 0

-- DeleteUser (6.1): its assignments and its sessions go with it
unfoldable pub delete_user_refusal : PolicyState → List ℕ → Option Refusal
delete_user_refusal p user = if not (is_user p user) then Some NoUser else None

abbrev pub user_gone : PolicyState → List ℕ → PolicyState
user_gone p user = record p { users = remove_entry (bytes_eq user) p.users; sessions = filter (λ e. not (bytes_eq e.1.user user)) p.sessions }

-- AssignUser (6.1, 6.3)
abbrev pub assigned : PolicyState → List ℕ → List ℕ → PolicyState
assigned p user role = with_roles p user (with_role (held_by p user) (slot_of p role))

unfoldable pub assign_refusal : PolicyState → List ℕ → List ℕ → Option Refusal
assign_refusal p user role =
    if not (is_user p user) then Some NoUser
    else if not (is_role p role) then Some NoRole
    else if has (held_by p user) (slot_of p role) then Some Already
    else broken_ssd (assigned p user role)

-- a session of this user keeps of its active roles those that are allowed
abbrev pub kept_session : List ℕ → ℕ → Session → Session
kept_session user allowed s = if bytes_eq s.user user then record s { active = bit_and s.active allowed } else s

abbrev pub narrowed : PolicyState → List ℕ → ℕ → PolicyState
narrowed p user allowed = record p { sessions = map (λ e. (e.0, kept_session user allowed e.1)) p.sessions }

-- DeassignUser (6.1): the user's sessions keep the roles for which it is still authorized
abbrev pub deassigned : PolicyState → List ℕ → List ℕ → PolicyState
deassigned p user role =
    let left = without (held_by p user) (slot_of p role) in
    narrowed (with_roles p user left) user (closed p.order left)

unfoldable pub deassign_refusal : PolicyState → List ℕ → List ℕ → Option Refusal
deassign_refusal p user role =
    if not (is_user p user) then Some NoUser
    else if not (is_role p role) then Some NoRole
    else if not (has (held_by p user) (slot_of p role)) then Some NotThere
    else None

-- AddRole (6.1): the role takes the least free slot
abbrev pub role_at : PolicyState → List ℕ → ℕ → PolicyState
role_at p role slot = record p { roles = insert_entry bytes_eq p.roles role slot; order = with_slot p.order slot }

abbrev pub role_added : PolicyState → List ℕ → PolicyState
role_added p role = option_map_or (role_at p role) (first_free p.order.roles) p

unfoldable pub add_role_refusal : PolicyState → List ℕ → Option Refusal
add_role_refusal p role =
    if is_role p role then Some Already
    else if is_none (first_free p.order.roles) then Some Full
    else None

-- each session keeps of its active roles those for which its user is authorized
abbrev pub kept_authorized : List (List ℕ × ℕ) → Order → Session → Session
kept_authorized users order s = record s { active = bit_and s.active (closed order (unwrap_or (lookup (bytes_eq s.user) users) 0)) }

abbrev pub narrowed_all : PolicyState → PolicyState
narrowed_all p = record p { sessions = map (λ e. (e.0, kept_authorized p.users p.order e.1)) p.sessions }

-- DeleteRole (6.1): its assignments, permissions and pairs go, and the sessions lose the roles that are no longer authorized
abbrev pub role_gone_at : PolicyState → List ℕ → ℕ → PolicyState
role_gone_at p role slot = narrowed_all (record p {
  users = map (λ u. (u.0, without u.1 slot)) p.users;
  roles = remove_entry (bytes_eq role) p.roles;
  order = without_slot p.order slot;
  grants = rows_cleared p.grants slot;
})

abbrev pub role_gone : PolicyState → List ℕ → PolicyState
role_gone p role = role_gone_at p role (slot_of p role)

unfoldable pub delete_role_refusal : PolicyState → List ℕ → Option Refusal
delete_role_refusal p role =
    if not (is_role p role) then Some NoRole
    else if is_in_some p.ssd (slot_of p role) || is_in_some p.dsd (slot_of p role) then Some InSet
    else None

-- GrantPermission and RevokePermission (6.1), for each object of the range
abbrev pub granted : PolicyState → List ℕ → Operation → ObjectRange → PolicyState
granted p role operation range =
    let slot = slot_of p role in
    with_row p slot operation (with_range (row_of p slot operation) (first_of range) (size_of range))

abbrev pub revoked : PolicyState → List ℕ → Operation → ObjectRange → PolicyState
revoked p role operation range =
    let slot = slot_of p role in
    with_row p slot operation (without_range (row_of p slot operation) (first_of range) (size_of range))

unfoldable pub grant_refusal : PolicyState → List ℕ → ObjectRange → Option Refusal
grant_refusal p role range =
    if not (is_role p role) then Some NoRole
    else if is_bad_range p.customers p.vehicles range then Some BadObject
    else None

-- AddInheritance (6.2, 6.3)
abbrev pub inherited : PolicyState → List ℕ → List ℕ → PolicyState
inherited p senior junior = record p { order = with_pair p.order (slot_of p senior) (slot_of p junior) }

unfoldable pub inherit_refusal : PolicyState → List ℕ → List ℕ → Option Refusal
inherit_refusal p senior junior =
    if not (is_role p senior) then Some NoRole
    else if not (is_role p junior) then Some NoRole
    else if stands p.order (slot_of p senior) (slot_of p junior) then Some Already
    else if has (juniors_of p.order (slot_of p junior)) (slot_of p senior) then Some Cycle
    else broken (inherited p senior junior)

-- DeleteInheritance (6.2): the sessions lose the roles that are no longer authorized
abbrev pub uninherited : PolicyState → List ℕ → List ℕ → PolicyState
uninherited p senior junior = narrowed_all (record p { order = without_pair p.order (slot_of p senior) (slot_of p junior) })

unfoldable pub uninherit_refusal : PolicyState → List ℕ → List ℕ → Option Refusal
uninherit_refusal p senior junior =
    if not (is_role p senior) then Some NoRole
    else if not (is_role p junior) then Some NoRole
    else if not (stands p.order (slot_of p senior) (slot_of p junior)) then Some NotThere
    else None

-- the slots of these roles
abbrev pub slots_of : PolicyState → List (List ℕ) → ℕ
slots_of p roles = fold (λ set role. with_role set (slot_of p role)) 0 roles

-- a refusal of a change of the sets, as one of the policy; the first argument is the refusal where a member is there already, or is not
-- there
abbrev pub as_refusal : Refusal → Option SetFault → Option Refusal
as_refusal due None = None
as_refusal due (Some fault.NoSet) = Some NoSet
as_refusal due (Some fault.Already) = Some Already
as_refusal due (Some fault.Member) = Some due
as_refusal due (Some fault.Full) = Some Full
as_refusal due (Some fault.NoMemory) = Some NoMemory
as_refusal due (Some _) = Some Number

-- CreateSsdSet (6.3), CreateDsdSet (6.4): the named roles, of which fewer than `number` may come together in a user, or be counted in a
-- session
abbrev pub set_created : Separation → PolicyState → List ℕ → ℕ → List (List ℕ) → PolicyState
set_created kind p name number roles = with_sets kind p (with_set (sets_of kind p) name (record { roles = slots_of p roles; number = number }))

unfoldable pub create_set_refusal : Separation → PolicyState → List ℕ → ℕ → List (List ℕ) → Option Refusal
create_set_refusal kind p name number roles =
    if not (list_all (is_role p) roles) then Some NoRole
    else option_or (as_refusal NotThere (new_refusal (sets_of kind p) name (slots_of p roles) number))
    (option_or (broken_by kind (set_created kind p name number roles))
    (if nat_le MOST_SETS (length (sets_of kind p)) then Some Full else None))

-- AddSsdRoleMember (6.3), AddDsdRoleMember (6.4)
abbrev pub member_added : Separation → PolicyState → List ℕ → List ℕ → PolicyState
member_added kind p name role = with_sets kind p (with_member (sets_of kind p) name (slot_of p role))

unfoldable pub add_member_refusal : Separation → PolicyState → List ℕ → List ℕ → Option Refusal
add_member_refusal kind p name role =
    if not (is_role p role) then Some NoRole
    else option_or (as_refusal Already (add_refusal (limit_of (sets_of kind p) name) (slot_of p role))) (broken_by kind (member_added kind p name role))

-- DeleteSsdRoleMember (6.3), DeleteDsdRoleMember (6.4)
abbrev pub member_gone : Separation → PolicyState → List ℕ → List ℕ → PolicyState
member_gone kind p name role = with_sets kind p (without_member (sets_of kind p) name (slot_of p role))

unfoldable pub delete_member_refusal : Separation → PolicyState → List ℕ → List ℕ → Option Refusal
delete_member_refusal kind p name role =
    if not (is_role p role) then Some NoRole
    else as_refusal NotThere (drop_refusal (limit_of (sets_of kind p) name) (slot_of p role))

-- DeleteSsdSet (6.3), DeleteDsdSet (6.4)
abbrev pub set_gone : Separation → PolicyState → List ℕ → PolicyState
set_gone kind p name = with_sets kind p (without_set (sets_of kind p) name)

abbrev pub delete_set_refusal : Separation → PolicyState → List ℕ → Option Refusal
delete_set_refusal kind p name = as_refusal NotThere (delete_refusal (limit_of (sets_of kind p) name))

-- SetSsdSetCardinality (6.3), SetDsdSetCardinality (6.4)
abbrev pub set_numbered : Separation → PolicyState → List ℕ → ℕ → PolicyState
set_numbered kind p name number = with_sets kind p (with_number (sets_of kind p) name number)

unfoldable pub cardinality_refusal : Separation → PolicyState → List ℕ → ℕ → Option Refusal
cardinality_refusal kind p name number =
    option_or (as_refusal NotThere (set_refusal (limit_of (sets_of kind p) name) number)) (broken_by kind (set_numbered kind p name number))

-- the roles for which a user is authorized
abbrev pub authorized_for : PolicyState → List ℕ → ℕ
authorized_for p user = closed p.order (held_by p user)

-- CreateSession (6.1, 6.4)
abbrev pub opened : PolicyState → List ℕ → List (List ℕ) → PolicyState
opened p user roles = record (with_session p (p.last + 1) (record { user = user; active = slots_of p roles })) { last = p.last + 1 }

unfoldable pub open_refusal : PolicyState → List ℕ → List (List ℕ) → Option Refusal
open_refusal p user roles =
    if not (is_user p user) then Some NoUser
    else if not (list_all (is_role p) roles) then Some NoRole
    else if not (is_within (slots_of p roles) (authorized_for p user)) then Some NotAuthorized
    else option_or (broken_dsd (opened p user roles))
    (if nat_le MOST_SESSIONS (length p.sessions) || nat_le 4294967295 p.last then Some Full else None)

-- DeleteSession (6.1)
abbrev pub shut : PolicyState → ℕ → PolicyState
shut p number = record p { sessions = remove_entry (nat_eq number) p.sessions }

unfoldable pub close_refusal : PolicyState → ℕ → Option Refusal
close_refusal p number = if not (is_session p number) then Some NotThere else None

-- AddActiveRole (6.1, 6.4)
abbrev pub activated : PolicyState → ℕ → List ℕ → PolicyState
activated p number role =
    let s = session_of p number in
    with_session p number (record s { active = with_role s.active (slot_of p role) })

unfoldable pub activate_refusal : PolicyState → ℕ → List ℕ → Option Refusal
activate_refusal p number role =
    let s = session_of p number in
    if not (is_role p role) then Some NoRole
    else if is_session p number && has s.active (slot_of p role) then Some Already
    else if not (is_session p number) then Some NotThere
    else if not (has (authorized_for p s.user) (slot_of p role)) then Some NotAuthorized
    else broken_dsd (activated p number role)

-- DropActiveRole (6.1)
abbrev pub deactivated : PolicyState → ℕ → List ℕ → PolicyState
deactivated p number role =
    let s = session_of p number in
    with_session p number (record s { active = without s.active (slot_of p role) })

unfoldable pub deactivate_refusal : PolicyState → ℕ → List ℕ → Option Refusal
deactivate_refusal p number role =
    if not (is_role p role) then Some NoRole
    else if not (is_session p number && has (session_of p number).active (slot_of p role)) then Some NotThere
    else None

-- a session loses its active roles where what they inherit breaks a DSD set
abbrev pub migrated_session : Order → Groups → Session → Session
migrated_session order groups s = if is_some (first_broken (closed order s.active) groups) then record s { active = 0 } else s

-- the DSD sets count inherited roles from now on, and the sessions that then break one lose their active roles
abbrev pub migrated : PolicyState → PolicyState
migrated p = record p { counting = Inherited; sessions = map (λ e. (e.0, migrated_session p.order p.dsd e.1)) p.sessions }

abbrev pub migrate_refusal : Counting → Option Refusal
migrate_refusal Inherited = Some Already
migrate_refusal Active = None
