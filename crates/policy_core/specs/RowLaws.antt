-- Rows that are set twice, and rows that are emptied after they were set.
use Rattle.std.proofs.Common.{◌≡◌, ◌≢◌, ℕ, zero, suc, ◌+◌, ◌*◌, ◌<◌, ◌≤◌, List, [], ◌∷◌, set, inl, inr, refl, ap, ◌∙◌, arith}
use Rattle.std.proofs.lemmas.Bool.{cases_eq}
use Rattle.permission_core.specs.declared.objects.Operation.{Operation}
use Rattle.permission_core.specs.declared.objects.TheConstants.{OPERATIONS}
use Rattle.permission_core.specs.Objects.{index_of}
use Rattle.permission_core.specs.OperationLaws.{index_small}
use Rattle.permission_core.specs.Permissions.{Rows, row_set, cleared_rows, rows_cleared}

pub set_twice : {X : Type 0} (xs : List X) (i : ℕ) (a b : X) → set (set xs i a) i b ≡ set xs i b
set_twice [] i a b = refl
set_twice (x ∷ xs) zero a b = refl
set_twice (x ∷ xs) (suc i) a b = ap (λ ys. x ∷ ys) (set_twice xs i a b)

pub set_apart : {X : Type 0} (xs : List X) (i j : ℕ) (a b : X) → i ≢ j → set (set xs i a) j b ≡ set (set xs j b) i a
set_apart [] i j a b apart = refl
set_apart (x ∷ xs) zero zero a b apart = absurd (apart refl)
set_apart (x ∷ xs) zero (suc j) a b apart = refl
set_apart (x ∷ xs) (suc i) zero a b apart = refl
set_apart (x ∷ xs) (suc i) (suc j) a b apart = ap (λ ys. x ∷ ys) (set_apart xs i j a b (λ same. apart (ap suc same)))

-- a row past those that are emptied
cleared_past : (rows : Rows) (slot n i row : ℕ) → OPERATIONS * slot + n ≤ i → cleared_rows (set rows i row) slot n ≡ set (cleared_rows rows slot n) i row
unfolding cleared_rows
cleared_past rows slot zero i row past = refl
cleared_past rows slot (suc n) i row past =
    ap (λ xs. set xs (OPERATIONS * slot + n) 0) (cleared_past rows slot n i row (omega (arith, past)))
    ∙ set_apart (cleared_rows rows slot n) i (OPERATIONS * slot + n) row 0 (λ same. omega (arith, same, past))

-- a row among those that are emptied
cleared_set : (rows : Rows) (slot n k row : ℕ) → k < n → cleared_rows (set rows (OPERATIONS * slot + k) row) slot n ≡ cleared_rows rows slot n
unfolding cleared_rows
cleared_set rows slot zero k row small = absurd (omega (arith, small))
cleared_set rows slot (suc n) k row small = elim (cases_eq k n) [
  | inl last ↦
      ap (λ xs. set xs (OPERATIONS * slot + n) 0) (cleared_past rows slot n (OPERATIONS * slot + k) row (omega (arith, last)))
      ∙ ap (λ m. set (set (cleared_rows rows slot n) (OPERATIONS * slot + m) row) (OPERATIONS * slot + n) 0) last
      ∙ set_twice (cleared_rows rows slot n) (OPERATIONS * slot + n) row 0
  | inr before ↦ ap (λ xs. set xs (OPERATIONS * slot + n) 0) (cleared_set rows slot n k row (omega (arith, small, before)))
]

cleared_again : (rows : Rows) (slot n m : ℕ) → n ≤ m → cleared_rows (cleared_rows rows slot n) slot m ≡ cleared_rows rows slot m
unfolding cleared_rows
cleared_again rows slot zero m few = refl
cleared_again rows slot (suc n) m few = cleared_set (cleared_rows rows slot n) slot m n 0 (omega (arith, few)) ∙ cleared_again rows slot n m (omega (arith, few))

-- the other rows are equal, whatever one row of the slot is set to
pub cleared-row_set : (rows : Rows) (slot : ℕ) (operation : Operation) (row : ℕ) → rows_cleared (row_set rows slot operation row) slot ≡ rows_cleared rows slot
cleared-row_set rows slot operation row = cleared_set rows slot OPERATIONS (index_of operation) row (index_small operation)

pub cleared_twice : (rows : Rows) (slot : ℕ) → rows_cleared (rows_cleared rows slot) slot ≡ rows_cleared rows slot
cleared_twice rows slot = cleared_again rows slot OPERATIONS OPERATIONS (omega arith)
