-- In which parts a policy may differ from another.
use Rattle.std.specs.Prelude.{◌≡◌, ℕ, ◌%◌, ◌^◌, Bool, false, ◌||◌, if◌then◌else◌, List, Option, Some, None}
use Rattle.permission_core.specs.Permissions.{Rows, rows_cleared}
use Rattle.policy_core.specs.State.{PolicyState, slot_of}
use Rattle.policy_core.specs.declared.parts.Parts.{Parts}

-- The permissions are the policy's, except those of the role of that name, if one is named.
abbrev pub DifferInRole : Option (List ℕ) → Rows → PolicyState → Type 0
DifferInRole None rows b = rows ≡ b.grants
DifferInRole (Some role) rows b = rows_cleared rows (slot_of b role) ≡ rows_cleared b.grants (slot_of b role)

-- The parts that are not marked are those of the second policy. Its plain numbers and what DSD counts are no parts.
pub record DifferIn (parts : Parts) (a b : PolicyState) : Type 0 where
  pub users : parts.users ≡ false → a.users ≡ b.users
  pub roles : parts.roles ≡ false → a.roles ≡ b.roles
  pub order : parts.order ≡ false → a.order ≡ b.order
  pub grants : DifferInRole parts.grants a.grants b
  pub ssd : parts.ssd ≡ false → a.ssd ≡ b.ssd
  pub dsd : parts.dsd ≡ false → a.dsd ≡ b.dsd
  pub sessions : parts.sessions ≡ false → a.sessions ≡ b.sessions

-- the members of the set that are below n
unfoldable pub members_below : ℕ → ℕ → ℕ
members_below members n = members % 2 ^ n

-- the value, if it is chosen
abbrev pub chosen : {X : Type 0} → Bool → X → Option X
chosen is_chosen x = if is_chosen then Some x else None

-- no part is marked
abbrev pub no_parts : Parts
no_parts = record { users = false; roles = false; order = false; grants = None; ssd = false; dsd = false; sessions = false }

-- whether a part is marked that takes memory to copy: any but the permissions
abbrev pub is_copied : Parts → Bool
is_copied parts = parts.users || parts.roles || parts.order || parts.ssd || parts.dsd || parts.sessions
