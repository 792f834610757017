-- How many entries a change of one of them leaves.
use Rattle.std.proofs.Common.{◌≡◌, ◌≤◌, ◌+◌, suc, Bool, true, false, cond, List, [], ◌∷◌, length, map, filter, Some, refl, ap, arith}
use Rattle.std.specs.Prelude.{is_some}
use Rattle.std.specs.Map.{lookup, remove_entry}
use Rattle.std.proofs.lemmas.Bool.{false≢true, true≢false}
use Rattle.indexmap.specs.IndexMap.{insert_entry}

module _ {K V : Type 0} where
  pub length-inserted : (same : K → K → Bool) (es : List (K × V)) (k : K) (v : V) → length (insert_entry same es k v) ≤ length es + 1
  length-inserted same [] k v = omega arith
  length-inserted same (e ∷ es) k v = elim (same k e.0) as (λ t. length (cond t ((e.0, v) ∷ es) (e ∷ insert_entry same es k v)) ≤ length (e ∷ es) + 1) [
    | true ↦ omega arith
    | false ↦ omega (arith, length-inserted same es k v)
  ]

  -- a key that is there
  pub length-present : (same : K → K → Bool) (es : List (K × V)) (k : K) (v : V) → is_some (lookup (same k) es) ≡ true → length (insert_entry same es k v) ≡ length es
  length-present same [] k v there = absurd (false≢true there)
  length-present same (e ∷ es) k v there =
      elim (same k e.0) as (λ t. is_some (cond t (Some e.1) (lookup (same k) es)) ≡ true → length (cond t ((e.0, v) ∷ es) (e ∷ insert_entry same es k v)) ≡ length (e ∷ es)) [
        | true ↦ λ h. refl
        | false ↦ λ h. ap (λ n. suc n) (length-present same es k v h)
      ] there

  -- a key that is not
  pub length-new : (same : K → K → Bool) (es : List (K × V)) (k : K) (v : V) → is_some (lookup (same k) es) ≡ false → length (insert_entry same es k v) ≡ length es + 1
  length-new same [] k v absent = refl
  length-new same (e ∷ es) k v absent =
      elim (same k e.0) as (λ t. is_some (cond t (Some e.1) (lookup (same k) es)) ≡ false → length (cond t ((e.0, v) ∷ es) (e ∷ insert_entry same es k v)) ≡ length (e ∷ es) + 1) [
        | true ↦ λ h. absurd (true≢false h)
        | false ↦ λ h. omega (arith, length-new same es k v h)
      ] absent

  -- a key that goes
  pub length-gone : (key : K → Bool) (es : List (K × V)) (v : V) → lookup key es ≡ Some v → length es ≡ length (remove_entry key es) + 1
  length-gone key [] v there = cc
  length-gone key (e ∷ es) v there =
      elim (key e.0) as (λ t. cond t (Some e.1) (lookup key es) ≡ Some v → length (e ∷ es) ≡ length (cond t es (e ∷ remove_entry key es)) + 1) [
        | true ↦ λ h. omega arith
        | false ↦ λ h. omega (arith, length-gone key es v h)
      ] there

  pub length-removed : (key : K → Bool) (es : List (K × V)) → length (remove_entry key es) ≤ length es
  length-removed key [] = omega arith
  length-removed key (e ∷ es) = elim (key e.0) as (λ t. length (cond t es (e ∷ remove_entry key es)) ≤ length (e ∷ es)) [
    | true ↦ omega arith
    | false ↦ omega (arith, length-removed key es)
  ]

  pub length-kept : (keep : (K × V) → Bool) (es : List (K × V)) → length (filter keep es) ≤ length es
  length-kept keep [] = omega arith
  length-kept keep (e ∷ es) = elim (keep e) as (λ t. length (cond t (e ∷ filter keep es) (filter keep es)) ≤ length (e ∷ es)) [
    | true ↦ omega (arith, length-kept keep es)
    | false ↦ omega (arith, length-kept keep es)
  ]

  -- values that change
  pub length-changed : (k : V → V) (es : List (K × V)) → length {A = K × V} (map (λ e. (e.0, k e.1)) es) ≡ length es
  length-changed k [] = refl
  length-changed k (e ∷ es) = ap (λ n. suc n) (length-changed k es)
