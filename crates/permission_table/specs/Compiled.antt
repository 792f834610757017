-- Tables against the policy that they were made from. `has_access` is CheckAccess as a test that computes.
use Rattle.std.specs.Prelude.{◌≡◌, ℕ, Bool, false, List, Option, Some, IfSome, nat_eq, is_some, unwrap_or, length}
use Rattle.std.specs.Map.{lookup}
use Rattle.std.specs.Option.{option_map}
use Rattle.role_hierarchy.specs.Roles.{has}
use Rattle.permission_core.specs.declared.objects.Operation.{Operation}
use Rattle.permission_core.specs.declared.objects.Object.{Object}
use Rattle.permission_core.specs.declared.objects.TheConstants.{OPERATIONS}
use Rattle.policy_core.specs.State.{PolicyState, is_session}
use Rattle.policy_core.specs.Access.{has_access, reached_roles}
use Rattle.permission_table.specs.Bits.{SessionAccess, allowed_by}
use Rattle.permission_table.specs.Tables.{TablesState, RowsState, allows, rows_of, rows_after, will_allow, is_among}

-- for each session, operation and object the bit is CheckAccess
abbrev pub AreBitsOf : (ℕ → Operation → Object → Bool) → PolicyState → Type 0
AreBitsOf bit p = (session : ℕ) (operation : Operation) (object : Object) → bit session operation object ≡ has_access p session operation object

-- an active role of the session is senior to the role, or is it
abbrev pub does_reach : PolicyState → ℕ → ℕ → Bool
does_reach p session role = has (unwrap_or (reached_roles p session) 0) role

-- the roles that the session's active roles reach, where something is compiled for it
abbrev pub reach_in : Option SessionAccess → Option ℕ
reach_in found = option_map (λ access. access.reach) found

-- for each session the roles are those that its active roles reach
abbrev pub AreReachesOf : (ℕ → Option SessionAccess) → PolicyState → Type 0
AreReachesOf found p = (session : ℕ) → reach_in (found session) ≡ reached_roles p session

-- a session has a row for each operation, where it has any
abbrev pub HasAllRows : Option SessionAccess → Type 0
HasAllRows found = IfSome found (λ access. length access.rows ≡ OPERATIONS)

-- what is compiled says CheckAccess of this policy, and which roles each session reaches
abbrev pub IsCompiled : (ℕ → Operation → Object → Bool) → (ℕ → Option SessionAccess) → PolicyState → Type 0
IsCompiled bit found p = AreBitsOf bit p × AreReachesOf found p × ((session : ℕ) → HasAllRows (found session))

-- the tables say it
abbrev pub AreCompiled : TablesState → PolicyState → Type 0
AreCompiled t p = IsCompiled (allows t) (rows_of t) p

-- the tables will say it once these rows are in place
abbrev pub WillBeCompiled : RowsState → PolicyState → Type 0
WillBeCompiled rows p = IsCompiled (will_allow rows) (rows_after rows) p

-- Every session but these reaches the same roles in both states, and CheckAccess is the same for it.
pub record SameAccessBut (sessions : List ℕ) (before after : PolicyState) : Type 0 where
  pub reach : (session : ℕ) → is_among sessions session ≡ false → reached_roles after session ≡ reached_roles before session
  pub access : (session : ℕ) → is_among sessions session ≡ false → (operation : Operation) (object : Object)
      → has_access after session operation object ≡ has_access before session operation object

-- the policy has these numbers of customers and vehicles
pub record HasSizes (p : PolicyState) (t : TablesState) : Type 0 where
  pub customers : p.customers ≡ t.customers
  pub vehicles : p.vehicles ≡ t.vehicles

-- This is what is compiled for a session by the policy: nothing where there is no such session, or else the roles that it reaches, and a row
-- for each operation, in which each bit is CheckAccess.
pub record AreRowsOf (p : PolicyState) (session : ℕ) (found : Option SessionAccess) : Type 0 where
  pub there : is_some found ≡ is_session p session
  pub reached : reach_in found ≡ reached_roles p session
  pub whole : HasAllRows found
  pub bits : (operation : Operation) (object : Object) → allowed_by p.customers p.vehicles found operation object ≡ has_access p session operation object

-- each session that has a change gets its rows by the policy
abbrev pub AreChangesOf : PolicyState → List (ℕ × Option SessionAccess) → Type 0
AreChangesOf p changes = (session : ℕ) (found : Option SessionAccess) → lookup (nat_eq session) changes ≡ Some found → AreRowsOf p session found
