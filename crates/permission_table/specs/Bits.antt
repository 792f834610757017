-- Bits of a session's rows, one for each operation and object.
use Rattle.std.specs.Prelude.{ℕ, ◌&&◌, Bool, false, List, Option, Some, None, slice_index}
use Rattle.role_hierarchy.specs.Roles.{has}
use Rattle.permission_core.specs.declared.objects.Operation.{Operation}
use Rattle.permission_core.specs.declared.objects.Object.{Object}
use Rattle.permission_core.specs.Objects.{index_of, number_of, is_object}

-- What is compiled for a session: the roles that its active roles reach, and its rows, one for each operation, as sets of objects.
pub record SessionAccess : Type 0 where
  pub reach : ℕ
  pub rows : List ℕ

-- the row of an operation
abbrev pub row_in : SessionAccess → Operation → ℕ
row_in access operation = slice_index access.rows (index_of operation)

-- the bit of an object in the row of an operation; a session without rows has none
abbrev pub bit_in : Option SessionAccess → Operation → Object → Bool
bit_in None operation object = false
bit_in (Some access) operation object = has (row_in access operation) (number_of object)

-- what rows of a session say, over this many customers and vehicles: false for an object that is not there
abbrev pub allowed_by : ℕ → ℕ → Option SessionAccess → Operation → Object → Bool
allowed_by customers vehicles found operation object = is_object customers vehicles object && bit_in found operation object
