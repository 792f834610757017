-- The policy as data: USERS, ROLES, UA, PA, RH and SESSIONS of ANSI INCITS 359-2004, 6.1 and 6.2, and its SSD and DSD sets, 6.3 and 6.4. A
-- role is its slot; its name is in the list of roles.
use Rattle.std.specs.Prelude.{◌≡◌, ◌≤◌, ℕ, Bool, true, false, ◌&&◌, nat_le, nat_lt, List, [], ◌∷◌, length, map, Option, Some, None, bytes_eq, nat_eq, is_some, position, unwrap_or}
use Rattle.std.specs.List.{list_any}
use Rattle.std.specs.Map.{lookup}
use Rattle.std.specs.Option.{option_map, option_or}
use Rattle.limits.specs.declared.TheConstants.{MOST_CUSTOMERS, MOST_SESSIONS, MOST_USERS, MOST_VEHICLES}
use Rattle.indexmap.specs.IndexMap.{insert_entry}
use Rattle.role_hierarchy.specs.Roles.{has}
use Rattle.role_hierarchy.specs.Order.{Order, no_order, is_there, role_count}
use Rattle.role_hierarchy.specs.Below.{closed}
use Rattle.separation_core.specs.Groups.{Groups, first_breaking, is_in_some}
use Rattle.permission_core.specs.Permissions.{Rows, no_rows, row_at}
use Rattle.permission_core.specs.declared.objects.Operation.{Operation}
use Rattle.policy_core.specs.declared.refusal.Refusal.{Refusal}
use Rattle.policy_core.specs.declared.refusal.Refusal.TheVariants.{Ssd, Dsd}
use Rattle.policy_core.specs.declared.session.Session.{Session}
use Rattle.policy_core.specs.declared.session.Counting.{Counting}
use Rattle.policy_core.specs.declared.session.Counting.TheVariants.{Active, Inherited}

-- users with their assigned roles, roles with their slots, and sets, each in order of creation; sessions by number
pub record PolicyState : Type 0 where
  pub customers : ℕ
  pub vehicles : ℕ
  pub users : List (List ℕ × ℕ)
  pub roles : List (List ℕ × ℕ)
  pub order : Order
  pub grants : Rows
  pub ssd : Groups
  pub dsd : Groups
  pub counting : Counting
  pub sessions : List (ℕ × Session)
  pub last : ℕ

-- the roles that DSD counts for a session: those that are active, or all to which one of them is senior
abbrev pub counted : Counting → Order → ℕ → ℕ
counted Active order active = active
counted Inherited order active = closed order active

-- the roles for which each user is authorized
abbrev pub authorized : PolicyState → List ℕ
authorized p = map (λ u. closed p.order u.1) p.users

-- the roles that DSD counts for each session
abbrev pub counted_all : PolicyState → List ℕ
counted_all p = map (λ s. counted p.counting p.order s.1.active) p.sessions

-- the numbers of the sessions
abbrev pub numbers_of : List (ℕ × Session) → List ℕ
numbers_of sessions = map (λ s. s.0) sessions

-- the numbers rise, from above the low one to the last one at most
abbrev pub rise : ℕ → ℕ → List ℕ → Bool
rise low last [] = true
rise low last (n ∷ ns) = nat_lt low n && (nat_le n last && rise n last ns)

-- Each role has a slot of its own, which is in use.
pub record HasSlots (roles : List (List ℕ × ℕ)) (used : ℕ) : Type 0 where
  pub there : (a : List ℕ) (slot : ℕ) → lookup (bytes_eq a) roles ≡ Some slot → has used slot ≡ true
  pub apart : (a b : List ℕ) (slot : ℕ) → lookup (bytes_eq a) roles ≡ Some slot → lookup (bytes_eq b) roles ≡ Some slot → a ≡ b

-- the roles of the set are there
abbrev pub AreThere : Order → ℕ → Type 0
AreThere order roles = (slot : ℕ) → is_there order slot ≡ false → has roles slot ≡ false

-- Nothing has the slot: no permission, no user, no session and no set.
pub record AreBare (grants : Rows) (assigned : List (List ℕ × ℕ)) (opened : List (ℕ × Session)) (static dynamic : Groups) (slot : ℕ) : Type 0 where
  pub permissions : (operation : Operation) → row_at grants slot operation ≡ 0
  pub users : list_any (λ u. has u.1 slot) assigned ≡ false
  pub sessions : list_any (λ s. has s.1.active slot) opened ≡ false
  pub ssd : is_in_some static slot ≡ false
  pub dsd : is_in_some dynamic slot ≡ false

abbrev pub IsBare : PolicyState → ℕ → Type 0
IsBare p slot = AreBare p.grants p.users p.sessions p.ssd p.dsd slot

-- What every policy keeps: no user is authorized for, and for no session are counted, as many roles of a set as its
-- number; the sessions' numbers rise, none above the last one used; there are no more of each kind than there may be; and there are as many
-- roles as slots in use, so that a free slot belongs to no role and has nothing.
pub record IsPolicy (p : PolicyState) : Type 0 where
  pub ssd : first_breaking (authorized p) p.ssd ≡ None
  pub dsd : first_breaking (counted_all p) p.dsd ≡ None
  pub slots : HasSlots p.roles p.order.roles
  pub numbers : rise 0 p.last (numbers_of p.sessions) ≡ true
  pub few_customers : p.customers ≤ MOST_CUSTOMERS
  pub few_vehicles : p.vehicles ≤ MOST_VEHICLES
  pub few_users : length p.users ≤ MOST_USERS
  pub few_sessions : length p.sessions ≤ MOST_SESSIONS
  pub free : (slot : ℕ) → is_there p.order slot ≡ false → IsBare p slot
  pub count : length p.roles ≡ role_count p.order

-- why a state is not allowed: the first set that it breaks
abbrev pub broken_ssd : PolicyState → Option Refusal
broken_ssd p = option_map Ssd (first_breaking (authorized p) p.ssd)

abbrev pub broken_dsd : PolicyState → Option Refusal
broken_dsd p = option_map Dsd (first_breaking (counted_all p) p.dsd)

abbrev pub broken : PolicyState → Option Refusal
broken p = option_or (broken_ssd p) (broken_dsd p)

-- the state in which the user, which is new or not, is assigned to these roles
abbrev pub with_roles : PolicyState → List ℕ → ℕ → PolicyState
with_roles p user roles = record p { users = insert_entry bytes_eq p.users user roles }

-- the state in which there is such a session
abbrev pub with_session : PolicyState → ℕ → Session → PolicyState
with_session p number session = record p { sessions = insert_entry nat_eq p.sessions number session }

-- the session of a number, and one without user and roles where there is none
abbrev pub is_session : PolicyState → ℕ → Bool
is_session p number = is_some (lookup (nat_eq number) p.sessions)

abbrev pub session_of : PolicyState → ℕ → Session
session_of p number = unwrap_or (lookup (nat_eq number) p.sessions) (record { user = []; active = 0 })

-- the session's user, if there is such a session
abbrev pub user_of : PolicyState → ℕ → Option (List ℕ)
user_of p number = option_map (λ s. s.user) (lookup (nat_eq number) p.sessions)

abbrev pub is_user : PolicyState → List ℕ → Bool
is_user p user = is_some (lookup (bytes_eq user) p.users)

abbrev pub is_role : PolicyState → List ℕ → Bool
is_role p role = is_some (lookup (bytes_eq role) p.roles)

-- the roles that a user is assigned to, none for one that is not there
abbrev pub held_by : PolicyState → List ℕ → ℕ
held_by p user = unwrap_or (lookup (bytes_eq user) p.users) 0

-- the place of a user among all users, from 0
abbrev pub place_of : PolicyState → List ℕ → Option ℕ
place_of p user = position (bytes_eq user) (map (λ u. u.0) p.users)

-- the slot of a role, 0 for one that is not there
abbrev pub slot_of : PolicyState → List ℕ → ℕ
slot_of p role = unwrap_or (lookup (bytes_eq role) p.roles) 0

-- no user, role, session or set
abbrev pub no_policy : ℕ → ℕ → PolicyState
no_policy customers vehicles = record {
  customers = customers;
  vehicles = vehicles;
  users = [];
  roles = [];
  order = no_order;
  grants = no_rows;
  ssd = [];
  dsd = [];
  counting = Active;
  sessions = [];
  last = 0;
}
