-- The list of all operations has each of them at its place among the rows of a role.
use Rattle.std.proofs.Common.{◌≡◌, ℕ, ◌+◌, ◌<◌, map, get_or, refl, sym, ap, ◌∙◌, arith}
use Rattle.std.specs.List.{range_with_len}
use Rattle.std.proofs.lemmas.List.{get_or-map}
use Rattle.std.proofs.lemmas.List.FromFn.{get_or-range_with_len}
use Rattle.permission_core.specs.declared.objects.Operation.{Operation}
use Rattle.permission_core.specs.declared.objects.Operation.TheVariants.{View}
use Rattle.permission_core.specs.declared.objects.TheConstants.{OPERATIONS}
use Rattle.permission_core.specs.declared.objects.TheConstants.Operation.{ALL}
use Rattle.permission_core.specs.Objects.{index_of}

-- Naming one operation makes the next line a case for each of the others.
pub index_small : (operation : Operation) → index_of operation < OPERATIONS
index_small View = omega arith
index_small _ = omega arith

pub all-index_of : (operation other : Operation) → get_or ALL (index_of operation) other ≡ operation
all-index_of View other = refl
all-index_of _ other = refl

indices : map index_of ALL ≡ range_with_len 0 OPERATIONS
indices = refl

pub index_of-all : (i : ℕ) (other : Operation) → i < OPERATIONS → index_of (get_or ALL i other) ≡ i
index_of-all i other small =
    let from : 0 + i ≡ i = omega arith in
    sym (get_or-map index_of ALL i other 0 small) ∙ ap (λ is. get_or is i 0) indices ∙ get_or-range_with_len 0 OPERATIONS i 0 small ∙ from
