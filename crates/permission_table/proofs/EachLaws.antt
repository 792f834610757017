-- Rows of a session that are changed one after another, one for each operation.
use Rattle.std.proofs.Common.{◌≡◌, ℕ, ◌+◌, ◌<◌, ◌≤◌, List, map, set, get_or, length, inl, inr, refl, sym, ap, ◌∙◌, arith}
use Rattle.std.proofs.lemmas.Bool.{cases_eq}
use Rattle.std.proofs.lemmas.List.{ext_get_or, get_or-map, get_or-set_other, get_or-set_same, length-set}
use Rattle.permission_core.specs.declared.objects.Operation.{Operation}
use Rattle.permission_core.specs.declared.objects.Operation.TheVariants.{View}
use Rattle.permission_core.specs.declared.objects.TheConstants.{OPERATIONS}
use Rattle.permission_core.specs.declared.objects.TheConstants.Operation.{ALL}
use Rattle.permission_core.specs.Objects.{index_of}
use Rattle.permission_core.specs.OperationLaws.{all-index_of, index_of-all, index_small}

abbrev pub row_for : List ℕ → Operation → ℕ
row_for rows operation = get_or rows (index_of operation) 0

pub at_operation : (f : Operation → ℕ) (operation : Operation) → row_for (map f ALL) operation ≡ f operation
at_operation f operation = get_or-map f ALL (index_of operation) operation 0 (index_small operation) ∙ ap f (all-index_of operation operation)

same_operation : (one other : Operation) → index_of one ≡ index_of other → one ≡ other
same_operation one other same = sym (all-index_of one one) ∙ ap (λ i. get_or ALL i one) same ∙ all-index_of other one

-- rows that are a function's, operation by operation
pub all_rows_are : (f : Operation → ℕ) (rows : List ℕ) → length rows ≡ OPERATIONS → ((operation : Operation) → row_for rows operation ≡ f operation) → rows ≡ map f ALL
all_rows_are f rows whole each = ext_get_or 0 rows (map f ALL) whole (λ i within.
    let operation : Operation = get_or ALL i View in
    let at : index_of operation ≡ i = index_of-all i _ (omega (arith, within, whole)) in
    ap (λ k. get_or rows k 0) (sym at) ∙ each operation ∙ sym (at_operation f operation) ∙ ap (λ k. get_or (map f ALL) k 0) at)

-- The rows of the first n operations are changed by a function of the operation and of the row before, and the others are as before.
pub record AreChanged (f : Operation → ℕ → ℕ) (old rows : List ℕ) (n : ℕ) : Type 0 where
  pub whole : length rows ≡ OPERATIONS
  pub before : (operation : Operation) → index_of operation < n → row_for rows operation ≡ f operation (row_for old operation)
  pub after : (operation : Operation) → n ≤ index_of operation → row_for rows operation ≡ row_for old operation

pub none_changed : (f : Operation → ℕ → ℕ) (old : List ℕ) → length old ≡ OPERATIONS → AreChanged f old old 0
none_changed f old whole = record { whole = whole; before = λ operation early. absurd (omega (arith, early)); after = λ operation late. refl }

pub next_changed : (f : Operation → ℕ → ℕ) (old rows : List ℕ) (n : ℕ) → AreChanged f old rows n
    → (place : ℕ) (operation : Operation) → place ≡ index_of operation → index_of operation ≡ n → (row : ℕ) → row ≡ f operation (row_for rows operation)
    → AreChanged f old (set rows place row) (n + 1)
next_changed f old rows n are place operation there at row is = record {
  whole = length-set rows place row ∙ are.whole;
  before = λ other early. elim (cases_eq (index_of other) place) [
    | inl same ↦
        (let one : other ≡ operation = same_operation other operation (same ∙ there) in
        ap (λ k. get_or (set rows place row) k 0) same
        ∙ get_or-set_same rows place row 0 (omega (arith, are.whole, there, index_small operation))
        ∙ is ∙ ap (f operation) (are.after operation (omega (arith, at))) ∙ ap (λ o. f o (row_for old o)) (sym one))
    | inr apart ↦
        (get_or-set_other rows place (index_of other) row 0 apart ∙ are.before other (omega (arith, early, there, at, apart)))
  ];
  after = λ other late.
      get_or-set_other rows place (index_of other) row 0 (λ same. omega (arith, same, there, at, late))
      ∙ are.after other (omega (arith, late));
}

pub each_changed : (f : Operation → ℕ → ℕ) (old rows : List ℕ) (n : ℕ) → OPERATIONS ≤ n → AreChanged f old rows n → (operation : Operation) → row_for rows operation ≡ f operation (row_for old operation)
each_changed f old rows n all are operation = are.before operation (omega (arith, all, index_small operation))
