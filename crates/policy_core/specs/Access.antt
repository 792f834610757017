-- CheckAccess (ANSI INCITS 359-2004, 6.2): whether a session may do an operation to an object.
use Rattle.std.specs.Prelude.{◌≡◌, ◌<◌, ℕ, zero, suc, Bool, true, false, ◌&&◌, ◌||◌, nat_eq, Option, Some}
use Rattle.std.specs.Map.{lookup}
use Rattle.std.specs.Option.{option_map}
use Rattle.limits.specs.declared.TheConstants.{MOST_ROLES}
use Rattle.role_hierarchy.specs.Order.{IsSenior, stands}
use Rattle.role_hierarchy.specs.Roles.{has}
use Rattle.role_hierarchy.specs.Below.{closed}
use Rattle.permission_core.specs.declared.objects.Object.{Object}
use Rattle.permission_core.specs.declared.objects.Operation.{Operation}
use Rattle.permission_core.specs.Objects.{number_of, is_object}
use Rattle.permission_core.specs.Permissions.{row_at, row_set}
use Rattle.policy_core.specs.declared.session.Session.{Session}
use Rattle.policy_core.specs.State.{PolicyState, is_session, session_of}

-- the objects to which the role may do the operation
abbrev pub row_of : PolicyState → ℕ → Operation → ℕ
row_of p slot operation = row_at p.grants slot operation

abbrev pub with_row : PolicyState → ℕ → Operation → ℕ → PolicyState
with_row p slot operation row = record p { grants = row_set p.grants slot operation row }

-- there is such an object
abbrev pub is_here : PolicyState → Object → Bool
is_here p object = is_object p.customers p.vehicles object

-- some number below n passes the test
unfoldable pub some_below : (ℕ → Bool) → ℕ → Bool
some_below test zero = false
some_below test (suc n) = some_below test n || test n

-- the role is among those below, and may do the operation to the object
abbrev pub is_reached : PolicyState → ℕ → Operation → ℕ → ℕ → Bool
is_reached p below operation number slot = has below slot && has (row_of p slot operation) number

-- some role to which one of these is senior may do the operation to the object
unfoldable pub reaches : PolicyState → ℕ → Operation → ℕ → Bool
reaches p active operation number = some_below (is_reached p (closed p.order active) operation number) MOST_ROLES

-- the roles to which an active one of the session is senior
abbrev pub reached_roles : PolicyState → ℕ → Option ℕ
reached_roles p session = option_map (λ s. closed p.order s.active) (lookup (nat_eq session) p.sessions)

-- CheckAccess as a test that computes
unfoldable pub has_access : PolicyState → ℕ → Operation → Object → Bool
has_access p session operation object =
    is_session p session && (is_here p object && reaches p (session_of p session).active operation (number_of object))

-- CheckAccess, as it is read: there is such a session and such an object, and there are a role that is active in the session and a role to
-- which it is senior that may do the operation to the object
abbrev pub CheckAccess : PolicyState → ℕ → Operation → Object → Type 0
CheckAccess p session operation object =
    (s : Session) × (lookup (nat_eq session) p.sessions ≡ Some s) × (is_here p object ≡ true)
    × ((a : ℕ) × (a < MOST_ROLES) × (has s.active a ≡ true) × ((b : ℕ) × IsSenior (stands p.order) a b × (has (row_of p b operation) (number_of object) ≡ true)))
