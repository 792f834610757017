-- Rows that are copied one by one.
use Rattle.std.proofs.Common.{◌≡◌, ℕ, zero, suc, ◌+◌, ◌*◌, ◌≤◌, set, get_or, sym, refl, ap, ap₂, ◌∙◌, arith}
use Rattle.std.proofs.lemmas.List.{set-get_or}
use Rattle.permission_core.specs.declared.objects.Operation.{Operation}
use Rattle.permission_core.specs.declared.objects.TheConstants.{OPERATIONS}
use Rattle.permission_core.specs.Objects.{index_of}
use Rattle.permission_core.specs.Permissions.{Rows, row_at, row_set, cleared_rows, rows_cleared}
use Rattle.policy_core.specs.RowLaws.{set_twice, set_apart}

-- the first n rows of the slot are those of the others
unfoldable pub filled : Rows → Rows → ℕ → ℕ → Rows
filled rows from slot zero = rows
filled rows from slot (suc n) = set (filled rows from slot n) (OPERATIONS * slot + n) (get_or from (OPERATIONS * slot + n) 0)

filled_past : (rows from : Rows) (slot n i row : ℕ) → OPERATIONS * slot + n ≤ i → filled (set rows i row) from slot n ≡ set (filled rows from slot n) i row
unfolding filled
filled_past rows from slot zero i row past = refl
filled_past rows from slot (suc n) i row past =
    ap (λ xs. set xs (OPERATIONS * slot + n) (get_or from (OPERATIONS * slot + n) 0)) (filled_past rows from slot n i row (omega (arith, past)))
    ∙ set_apart (filled rows from slot n) i (OPERATIONS * slot + n) row (get_or from (OPERATIONS * slot + n) 0) (λ same. omega (arith, same, past))

-- what the rows were before is lost
filled_cleared : (rows from : Rows) (slot n : ℕ) → filled (cleared_rows rows slot n) from slot n ≡ filled rows from slot n
unfolding filled cleared_rows
filled_cleared rows from slot zero = refl
filled_cleared rows from slot (suc n) =
    let row = get_or from (OPERATIONS * slot + n) 0 in
    ap (λ xs. set xs (OPERATIONS * slot + n) row) (filled_past (cleared_rows rows slot n) from slot n (OPERATIONS * slot + n) 0 (omega arith))
    ∙ set_twice (filled (cleared_rows rows slot n) from slot n) (OPERATIONS * slot + n) 0 row
    ∙ ap (λ xs. set xs (OPERATIONS * slot + n) row) (filled_cleared rows from slot n)

filled_self : (rows : Rows) (slot n : ℕ) → filled rows rows slot n ≡ rows
unfolding filled
filled_self rows slot zero = refl
filled_self rows slot (suc n) = ap (λ xs. set xs (OPERATIONS * slot + n) (get_or rows (OPERATIONS * slot + n) 0)) (filled_self rows slot n) ∙ set-get_or rows (OPERATIONS * slot + n) 0

pub filled_all : (rows from : Rows) (slot : ℕ) → rows_cleared rows slot ≡ rows_cleared from slot → filled rows from slot OPERATIONS ≡ from
filled_all rows from slot same =
    sym (filled_cleared rows from slot OPERATIONS) ∙ ap (λ xs. filled xs from slot OPERATIONS) same
    ∙ filled_cleared from from slot OPERATIONS ∙ filled_self from slot OPERATIONS

pub filled_none : (rows from : Rows) (slot : ℕ) → rows ≡ filled rows from slot 0
unfolding filled
filled_none rows from slot = refl

-- one more row, of the operation whose row it is
pub filled_next : (old rows from : Rows) (slot n : ℕ) (operation : Operation) → index_of operation ≡ n → rows ≡ filled old from slot n
    → row_set rows slot operation (row_at from slot operation) ≡ filled old from slot (n + 1)
unfolding filled
filled_next old rows from slot n operation at so_far =
    let more : suc n ≡ n + 1 = omega arith in
    ap₂ (λ xs i. set xs (OPERATIONS * slot + i) (get_or from (OPERATIONS * slot + i) 0)) so_far at ∙ ap (filled old from slot) more
