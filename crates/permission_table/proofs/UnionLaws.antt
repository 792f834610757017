-- Rows of roles that are joined one by one.
use Rattle.std.proofs.Common.{◌||◌, ◌⊎◌, ◌≡◌, ℕ, ◌+◌, ◌<◌, ◌≤◌, true, false, inl, inr, sym, ap, ◌∙◌, arith}
use Rattle.std.specs.Prelude.{bit_or}
use Rattle.std.proofs.lemmas.Bool.{or_left, or_right, or_cases, cases_lt, false≢true}
use Rattle.role_hierarchy.specs.Roles.{has}
use Rattle.role_hierarchy.specs.RoleLaws.{has-bit_or, has-empty}
use Rattle.permission_core.specs.declared.objects.Operation.{Operation}
use Rattle.policy_core.specs.State.{PolicyState}
use Rattle.policy_core.specs.Access.{row_of}
use Rattle.permission_table.specs.Unions.{IsUnion, IsUnionBelow}

module _ (p : PolicyState) (roles : ℕ) (operation : Operation) where
  pub union_none : (row : ℕ) → row ≡ 0 → IsUnionBelow p roles 0 operation row
  union_none row empty number = ((λ h. absurd (false≢true (sym (ap (λ r. has r number) empty ∙ has-empty number) ∙ h))), (λ c. absurd (omega (arith, c.1))))

  -- the next two roles that are not below n, or the last one twice
  pub union_two : (row n one other next : ℕ) → one ≤ other → (has roles one ≡ true) × (has roles other ≡ true)
      → ((q : ℕ) → n ≤ q → q ≤ other → has roles q ≡ true → (q ≡ one) ⊎ (q ≡ other)) → n ≤ one → IsUnionBelow p roles n operation row
      → next ≡ bit_or (bit_or row (row_of p one operation)) (row_of p other operation) → IsUnionBelow p roles (other + 1) operation next
  union_two row n one other next order members between after so_far joined number = (
    (λ h. elim (or_cases (has row number || has (row_of p one operation) number) (has (row_of p other operation) number) (sym has_next ∙ h)) [
      | inl rest ↦ elim (or_cases (has row number) (has (row_of p one operation) number) rest) [
        | inl old ↦ (let f = (so_far number).0 old in (f.0, omega (arith, f.1, after, order), f.2, f.3))
        | inr new ↦ (one, omega (arith, order), members.0, new)
      ]
      | inr new ↦ (other, omega arith, members.1, new)
    ]),
    (λ c. has_next ∙ elim (cases_lt c.0 n) [
      | inl low ↦ or_left _ _ (or_left _ _ ((so_far number).1 (c.0, low, c.2, c.3)))
      | inr high ↦ elim (between c.0 high (omega (arith, c.1)) c.2) [
        | inl e ↦ or_left _ _ (or_right _ _ (ap (λ b. has (row_of p b operation) number) (sym e) ∙ c.3))
        | inr e ↦ or_right _ _ (ap (λ b. has (row_of p b operation) number) (sym e) ∙ c.3)
      ]
    ]),
  )
    where
      has_next : has next number ≡ ((has row number || has (row_of p one operation) number) || has (row_of p other operation) number)
      has_next =
          ap (λ r. has r number) joined
          ∙ has-bit_or (bit_or row (row_of p one operation)) (row_of p other operation) number
          ∙ ap (λ t. t || has (row_of p other operation) number) (has-bit_or row (row_of p one operation) number)

  -- and there is none
  pub union_all : (row n : ℕ) → ((q : ℕ) → n ≤ q → has roles q ≡ false) → IsUnionBelow p roles n operation row → IsUnion p roles operation row
  union_all row n none so_far number = (
    (λ h. (let f = (so_far number).0 h in (f.0, f.2, f.3))),
    (λ c. elim (cases_lt c.0 n) [
      | inl low ↦ (so_far number).1 (c.0, low, c.1, c.2)
      | inr high ↦ absurd (false≢true (sym (none c.0 high) ∙ c.1))
    ]),
  )

-- what is found between two members, where none is before the first and none between them
pub two_between : (roles from one other : ℕ) → ((q : ℕ) → from ≤ q → q < one → has roles q ≡ false) → ((q : ℕ) → one + 1 ≤ q → q < other → has roles q ≡ false)
    → (q : ℕ) → from ≤ q → q ≤ other → has roles q ≡ true → (q ≡ one) ⊎ (q ≡ other)
two_between roles from one other before between q low high here = elim (cases_lt q one) [
  | inl below ↦ absurd (false≢true (sym (before q low below) ∙ here))
  | inr past ↦ elim (cases_lt q (one + 1)) [
    | inl same ↦ inl (omega (arith, same, past))
    | inr next ↦ elim (cases_lt q other) [
      | inl inside ↦ absurd (false≢true (sym (between q next inside) ∙ here))
      | inr over ↦ inr (omega (arith, over, high))
    ]
  ]
]

pub one_alone : (roles from one : ℕ) → ((q : ℕ) → from ≤ q → q < one → has roles q ≡ false) → (q : ℕ) → from ≤ q → q ≤ one → has roles q ≡ true → q ≡ one
one_alone roles from one before q low high here = elim (cases_lt q one) [
  | inl below ↦ absurd (false≢true (sym (before q low below) ∙ here))
  | inr past ↦ omega (arith, past, high)
]
