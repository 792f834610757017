-- The row of a session as the union of the rows of roles.
use Rattle.std.specs.Prelude.{◌≡◌, ◌<◌, ◌↔◌, ℕ, true, length}
use Rattle.role_hierarchy.specs.Roles.{has}
use Rattle.permission_core.specs.declared.objects.Operation.{Operation}
use Rattle.permission_core.specs.declared.objects.TheConstants.{OPERATIONS}
use Rattle.policy_core.specs.State.{PolicyState}
use Rattle.policy_core.specs.Access.{row_of}
use Rattle.permission_table.specs.Bits.{SessionAccess, row_in}

-- the row has the objects to which one of the roles may do the operation
abbrev pub IsUnion : PolicyState → ℕ → Operation → ℕ → Type 0
IsUnion p roles operation row =
    (number : ℕ) → (has row number ≡ true) ↔ ((b : ℕ) × (has roles b ≡ true) × (has (row_of p b operation) number ≡ true))

-- the objects to which one of the roles below n may do it
abbrev pub IsUnionBelow : PolicyState → ℕ → ℕ → Operation → ℕ → Type 0
IsUnionBelow p roles n operation row =
    (number : ℕ) → (has row number ≡ true) ↔ ((b : ℕ) × (b < n) × (has roles b ≡ true) × (has (row_of p b operation) number ≡ true))

-- the roles, and rows of what they may do, one for each operation
pub record AreUnions (p : PolicyState) (roles : ℕ) (access : SessionAccess) : Type 0 where
  pub reach : access.reach ≡ roles
  pub whole : length access.rows ≡ OPERATIONS
  pub rows : (operation : Operation) → IsUnion p roles operation (row_in access operation)
