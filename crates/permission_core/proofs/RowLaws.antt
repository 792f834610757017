-- Rows that are emptied one by one.
use Rattle.std.proofs.Common.{◌≡◌, ℕ, suc, ◌+◌, ◌*◌, List, set, refl, ap, ap₂, ◌∙◌, arith}
use Rattle.permission_core.specs.declared.objects.TheConstants.{OPERATIONS}
use Rattle.permission_core.specs.Permissions.{cleared_rows}

pub cleared_rows-none : (rows : List ℕ) (slot : ℕ) → rows ≡ cleared_rows rows slot 0
unfolding cleared_rows
cleared_rows-none rows slot = refl

pub cleared_rows-next : (old rows : List ℕ) (slot n row : ℕ) → rows ≡ cleared_rows old slot n → row ≡ 0 → set rows (OPERATIONS * slot + n) row ≡ cleared_rows old slot (n + 1)
unfolding cleared_rows
cleared_rows-next old rows slot n row is none =
    let more : suc n ≡ n + 1 = omega arith in
    ap₂ (λ xs x. set xs (OPERATIONS * slot + n) x) is none ∙ ap (cleared_rows old slot) more
