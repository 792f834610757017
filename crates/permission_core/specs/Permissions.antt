-- The permissions of the roles: PA of ANSI INCITS 359-2004, 6.1, by slot and operation.
use Rattle.std.specs.Prelude.{ℕ, zero, suc, ◌+◌, ◌*◌, List, slice_index, slice_set, replicate}
use Rattle.limits.specs.declared.TheConstants.{MOST_ROLES}
use Rattle.permission_core.specs.declared.objects.Operation.{Operation}
use Rattle.permission_core.specs.declared.objects.TheConstants.{OPERATIONS}
use Rattle.permission_core.specs.Objects.{index_of}

-- the objects to which each slot's role may do each operation, slot by slot
abbrev pub Rows : Type 0
Rows = List ℕ

-- the place among them of a slot and an operation
abbrev pub row_place : ℕ → Operation → ℕ
row_place slot operation = OPERATIONS * slot + index_of operation

abbrev pub row_at : Rows → ℕ → Operation → ℕ
row_at rows slot operation = slice_index rows (row_place slot operation)

abbrev pub row_set : Rows → ℕ → Operation → ℕ → Rows
row_set rows slot operation row = slice_set rows (row_place slot operation) row

-- no permission
abbrev pub no_rows : Rows
no_rows = replicate (OPERATIONS * MOST_ROLES) 0

-- the first n rows of the slot are empty
unfoldable pub cleared_rows : Rows → ℕ → ℕ → Rows
cleared_rows rows slot zero = rows
cleared_rows rows slot (suc n) = slice_set (cleared_rows rows slot n) (OPERATIONS * slot + n) 0

-- the rows of the slot, one for each operation, are empty
abbrev pub rows_cleared : Rows → ℕ → Rows
rows_cleared rows slot = cleared_rows rows slot OPERATIONS
