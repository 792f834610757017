-- The sets by role: for each role the places of the sets that have it.
use Rattle.std.specs.Prelude.{◌≡◌, ℕ, ◌<◌, ◌↔◌, Bool, true, false, List, length, Option, Some, None, slice_get, slice_index}
use Rattle.limits.specs.declared.TheConstants.{MOST_ROLES}
use Rattle.role_hierarchy.specs.Roles.{has}
use Rattle.separation_core.specs.declared.sets.Limit.{Limit}
use Rattle.separation_core.specs.Groups.{Groups, AreSets, is_broken}

-- the set, if there is one, has the role
abbrev pub set_has : Option (List ℕ × Limit) → ℕ → Bool
set_has None role = false
set_has (Some g) role = has g.1.roles role

-- the set at the place, from 0, has the role
abbrev pub has_at : Groups → ℕ → ℕ → Bool
has_at groups place role = set_has (slice_get groups place) role

-- the row of each role has the places of the sets that have it, and no others
abbrev pub IsIndex : List ℕ → Groups → Type 0
IsIndex rows groups = (role place : ℕ) → role < length rows → has (slice_index rows role) place ≡ has_at groups place role

-- the places that are in the row of one of the roles
abbrev pub IsPlaces : ℕ → List ℕ → ℕ → Type 0
IsPlaces places rows roles = (place : ℕ) → (has places place ≡ true) ↔ ((role : ℕ) × (has roles role ≡ true) × (has (slice_index rows role) place ≡ true))

-- a set at one of the places is broken
abbrev pub BreaksAt : ℕ → ℕ → Groups → Type 0
BreaksAt given places groups = (place : ℕ) × (g : List ℕ × Limit) × (has places place ≡ true) × (slice_get groups place ≡ Some g) × (is_broken given g.1 ≡ true)

-- What the sets keep: beside them their index, which has its 256 rows where there is a set.
pub record IsKept (groups : Groups) (rows : List ℕ) : Type 0 where
  pub sets : AreSets groups
  pub whole : 0 < length groups → length rows ≡ MOST_ROLES
  pub index : IsIndex rows groups
