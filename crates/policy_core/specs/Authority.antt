-- Which roles a user is authorized for, by chains of immediate pairs (ANSI INCITS 359-2004, 6.2).
use Rattle.std.specs.Prelude.{◌≡◌, ◌<◌, ◌↔◌, ℕ, true, false, List, Some, nat_eq}
use Rattle.std.specs.List.{list_all}
use Rattle.std.specs.Map.{lookup}
use Rattle.limits.specs.declared.TheConstants.{MOST_ROLES}
use Rattle.role_hierarchy.specs.Order.{IsSenior, stands}
use Rattle.role_hierarchy.specs.Roles.{has}
use Rattle.policy_core.specs.declared.session.Session.{Session}
use Rattle.policy_core.specs.declared.session.Counting.{Counting}
use Rattle.policy_core.specs.declared.session.Counting.TheVariants.{Active, Inherited}
use Rattle.policy_core.specs.State.{PolicyState, is_session, session_of, is_user, is_role, held_by, slot_of}
use Rattle.policy_core.specs.Commands.{slots_of}

-- one of these roles is senior to the role
abbrev pub IsBelow : PolicyState → ℕ → ℕ → Type 0
IsBelow p roles role = (a : ℕ) × (a < MOST_ROLES) × (has roles a ≡ true) × IsSenior (stands p.order) a role

-- the set holds exactly the roles to which one of these is senior
abbrev pub AreBelow : PolicyState → ℕ → ℕ → Type 0
AreBelow p roles below = (role : ℕ) → (has below role ≡ true) ↔ IsBelow p roles role

-- the user is assigned to a role that is senior to the role
abbrev pub IsAuthorized : PolicyState → List ℕ → ℕ → Type 0
IsAuthorized p user role = IsBelow p (held_by p user) role

-- the set holds exactly the roles that DSD counts where these are active: these, or all to which one of them is senior
abbrev pub AreCounted : PolicyState → Counting → ℕ → ℕ → Type 0
AreCounted p Active active given = given ≡ active
AreCounted p Inherited active given = AreBelow p active given

-- why AddActiveRole is refused as not authorized: role and session are there, the role is not active, and the session's user is not
-- authorized for it
pub record IsNotAuthorizedToActivate (p : PolicyState) (number : ℕ) (role : List ℕ) : Type 0 where
  pub role_there : is_role p role ≡ true
  pub there : is_session p number ≡ true
  pub inactive : has (session_of p number).active (slot_of p role) ≡ false
  pub unauthorized : ¬ IsAuthorized p (session_of p number).user (slot_of p role)

-- why CreateSession is refused as not authorized: the user and the roles are there, and for one of them the user is not authorized
pub record IsNotAuthorizedToOpen (p : PolicyState) (user : List ℕ) (roles : List (List ℕ)) : Type 0 where
  pub user_there : is_user p user ≡ true
  pub roles_there : list_all (is_role p) roles ≡ true
  pub unauthorized : ¬ ((slot : ℕ) → has (slots_of p roles) slot ≡ true → IsAuthorized p user slot)

-- why AddInheritance is refused as a cycle: the roles are there, they are in no immediate pair, and the junior is senior to the senior
pub record IsCycle (p : PolicyState) (senior junior : List ℕ) : Type 0 where
  pub senior_there : is_role p senior ≡ true
  pub junior_there : is_role p junior ≡ true
  pub new : stands p.order (slot_of p senior) (slot_of p junior) ≡ false
  pub chain : IsSenior (stands p.order) (slot_of p junior) (slot_of p senior)

-- each session keeps exactly those of its active roles for which its user is authorized afterwards
abbrev pub KeepsAuthorized : PolicyState → PolicyState → Type 0
KeepsAuthorized old new =
    (number : ℕ) (session : Session) → lookup (nat_eq number) old.sessions ≡ Some session → (role : ℕ)
    → (has (session_of new number).active role ≡ true) ↔ ((has session.active role ≡ true) × IsAuthorized new session.user role)

-- so does each session of the user, and the others keep all
abbrev pub KeepsAuthorizedOf : List ℕ → PolicyState → PolicyState → Type 0
KeepsAuthorizedOf user old new =
    (number : ℕ) (session : Session) → lookup (nat_eq number) old.sessions ≡ Some session → (role : ℕ)
    → (has (session_of new number).active role ≡ true) ↔ ((has session.active role ≡ true) × (session.user ≡ user → IsAuthorized new session.user role))
