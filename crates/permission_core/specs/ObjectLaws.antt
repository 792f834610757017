-- Sets of objects in thirty-two words.
use Rattle.std.proofs.Common.{◌≡◌, ℕ, zero, suc, true, false, not, sym, ap, inl, inr, ◌⊎◌, ◌↔◌, eqb, ◌+◌, ◌-◌, ◌≤◌, ◌/◌, ◌^◌, ◌<◌, List, length, set, ◌∙◌, arith}
use Rattle.std.proofs.lemmas.List.{length-set}
use Rattle.std.proofs.lemmas.Bool.{eqb-true, eq-eqb, ne_eqb, or_left, or_right, or_cases, and_parts, and_from, cases_eq, cases_lt, false≢true}
use Rattle.role_hierarchy.specs.Roles.{has}
use Rattle.role_hierarchy.specs.RoleLaws.{has-with_role, has-without}
use Rattle.role_hierarchy.specs.WordLaws.{small_set}
use Rattle.permission_core.specs.Objects.{AreWords, with_range, without_range}
use Rattle.role_hierarchy.specs.Roles.{with_role, without}

pub place_within : (ws : List ℕ) (r : ℕ) → AreWords ws → r < 2048 → r / 64 < length ws
place_within ws r are h = omega (arith, are.whole)

pub words_set : (ws : List ℕ) (i v : ℕ) → AreWords ws → v < 2 ^ 64 → AreWords (set ws i v)
words_set ws i v are h = record { whole = length-set ws i v ∙ are.whole; small = small_set ws i v are.small h }

pub with_range-none : (set first : ℕ) → set ≡ with_range set first (first - first)
unfolding with_range
with_range-none set first = let none : 0 ≡ first - first = omega arith in ap (with_range set first) none

pub with_range-next : (set first i : ℕ) → first ≤ i → with_role (with_range set first (i - first)) i ≡ with_range set first (i + 1 - first)
unfolding with_range
with_range-next set first i h =
    let last : i ≡ first + (i - first) = omega arith in
    let more : suc (i - first) ≡ i + 1 - first = omega arith in
    ap (with_role (with_range set first (i - first))) last ∙ ap (with_range set first) more

pub without_range-none : (set first : ℕ) → set ≡ without_range set first (first - first)
unfolding without_range
without_range-none set first = let none : 0 ≡ first - first = omega arith in ap (without_range set first) none

pub without_range-next : (set first i : ℕ) → first ≤ i → without (without_range set first (i - first)) i ≡ without_range set first (i + 1 - first)
unfolding without_range
without_range-next set first i h =
    let last : i ≡ first + (i - first) = omega arith in
    let more : suc (i - first) ≡ i + 1 - first = omega arith in
    ap (without (without_range set first (i - first))) last ∙ ap (without_range set first) more

in_one : (set first n o : ℕ) → (eqb o (first + n) ≡ true) → (first ≤ o) × (o < first + suc n)
in_one set first n o h = (let same : o ≡ first + n = eqb-true _ _ h in (omega arith, omega arith))

-- after GRANT over a range a set has what it had before, and the objects of the range
pub has-with_range : (set first n o : ℕ) → (has (with_range set first n) o ≡ true) ↔ ((has set o ≡ true) ⊎ ((first ≤ o) × (o < first + n)))
unfolding with_range
has-with_range set first zero o = ((λ h. inl h), (λ c. elim c [ inl h ↦ h | inr r ↦ absurd (omega (arith, r.0, r.1)) ]))
has-with_range set first (suc n) o =
    let before = has-with_range set first n o in
    let is = has-with_role (with_range set first n) (first + n) o in (
      (λ h. elim (or_cases _ _ (sym is ∙ h)) [
        | inl old ↦ elim (before.0 old) [ inl h ↦ inl h | inr r ↦ inr (r.0, omega (arith, r.1)) ]
        | inr new ↦ inr (in_one set first n o new)
      ]),
      (λ c. is ∙ elim c [
        | inl h ↦ or_left _ _ (before.1 (inl h))
        | inr r ↦ elim (cases_eq o (first + n)) [
          | inl e ↦ or_right _ _ (eq-eqb o (first + n) e)
          | inr ne ↦ or_left _ _ (before.1 (inr (r.0, omega (arith, r.1))))
        ]
      ]),
    )

-- after REVOKE over a range a set has what it had before, except the objects of the range
pub has-without_range : (set first n o : ℕ) → (has (without_range set first n) o ≡ true) ↔ ((has set o ≡ true) × ((o < first) ⊎ (first + n ≤ o)))
unfolding without_range
has-without_range set first zero o = ((λ h. (h, elim (cases_lt o first) [ inl low ↦ inl low | inr high ↦ inr (omega arith) ])), (λ c. c.0))
has-without_range set first (suc n) o =
    let before = has-without_range set first n o in
    let is = has-without (without_range set first n) (first + n) o in (
      (λ h.
          let parts = and_parts _ _ (sym is ∙ h) in
          let old = before.0 parts.1 in (
            old.0,
            elim old.1 [
              | inl low ↦ inl low
              | inr high ↦ elim (cases_eq o (first + n)) [
                | inl e ↦ absurd (false≢true (sym (ap not (eq-eqb o (first + n) e)) ∙ parts.0))
                | inr ne ↦ inr (omega arith)
              ]
            ],
          )),
      (λ c. is ∙ elim c.1 [
        | inl low ↦ and_from _ _ (ap not (ne_eqb o (first + n) (λ e. absurd (omega arith)))) (before.1 (c.0, inl low))
        | inr high ↦ and_from _ _ (ap not (ne_eqb o (first + n) (λ e. absurd (omega arith)))) (before.1 (c.0, inr (omega arith)))
      ]),
    )
