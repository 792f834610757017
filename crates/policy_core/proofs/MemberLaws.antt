-- The members of a set of objects that are below a number, as they grow.
use Rattle.std.proofs.Common.{◌≡◌, ℕ, ◌+◌, ◌-◌, ◌*◌, ◌/◌, ◌%◌, ◌^◌, ◌<◌, ◌≤◌, Bool, true, false, inl, inr, set, get_or, length, List, eqb, sym, refl, ap, ap₂, ◌∙◌, arith}
use Rattle.std.specs.Int.{bit_at}
use Rattle.std.proofs.Math.Nat.{mod-lt}
use Rattle.std.proofs.lemmas.Bool.{cases_lt, false≢true}
use Rattle.std.proofs.lemmas.Nat.{div-add-mod'}
use Rattle.std.proofs.lemmas.Nat.Bits.{bit_at-zero, bit_at_above, bit_at_cat_low, bit_at_ones}
use Rattle.std.proofs.lemmas.List.{get_or-set_same, get_or_past, set_past}
use Rattle.role_hierarchy.specs.Roles.{has}
use Rattle.role_hierarchy.specs.RoleLaws.{has-empty, same_roles, below_power}
use Rattle.role_hierarchy.specs.Words.{joined}
use Rattle.role_hierarchy.specs.WordLaws.{at_word}
use Rattle.permission_core.specs.Objects.{AreWords, with_range, without_range}
use Rattle.permission_core.specs.ObjectLaws.{has-with_range, has-without_range}
use Rattle.policy_core.specs.Parts.{members_below}
use Rattle.policy_core.specs.RowLaws.{set_twice}

same_test : (t u : Bool) → (t ≡ true → u ≡ true) → (u ≡ true → t ≡ true) → t ≡ u
same_test true u f g = sym (f refl)
same_test false true f g = g refl
same_test false false f g = refl

low_digit : (members n q : ℕ) → q < n → bit_at (members_below members n) q ≡ bit_at members q
unfolding members_below
low_digit members n q low = sym (bit_at_cat_low (members / 2 ^ n) n (members % 2 ^ n) q low) ∙ ap (λ m. bit_at m q) (div-add-mod' members (2 ^ n))

high_digit : (members n q : ℕ) → n ≤ q → bit_at (members_below members n) q ≡ 0
unfolding members_below
high_digit members n q high = bit_at_above (members % 2 ^ n) n q (mod-lt members (omega (arith, below_power n))) high

member_below : (members n q : ℕ) → q < n → has members q ≡ true → has (members_below members n) q ≡ true
unfolding has
member_below members n q low is = ap (λ d. eqb d 1) (low_digit members n q low) ∙ is

below_member : (members n q : ℕ) → has (members_below members n) q ≡ true → (q < n) × (has members q ≡ true)
unfolding has
below_member members n q is = elim (cases_lt q n) [
  | inl low ↦ (low, ap (λ d. eqb d 1) (sym (low_digit members n q low)) ∙ is)
  | inr high ↦ absurd (false≢true (sym (ap (λ d. eqb d 1) (high_digit members n q high)) ∙ is))
]

pub below_none : (members : ℕ) → members_below members 0 ≡ 0
below_none members = same_roles _ _ (λ q. same_test _ _
    (λ is. let low : q < 0 = (below_member members 0 q is).0 in absurd (omega (arith, low)))
    (λ is. absurd (false≢true (sym (has-empty q) ∙ is))))

pub below_all : (members n : ℕ) → ((q : ℕ) → n ≤ q → has members q ≡ false) → members_below members n ≡ members
below_all members n none = same_roles _ _ (λ q. same_test _ _
    (λ is. (below_member members n q is).1)
    (λ is. elim (cases_lt q n) [ inl low ↦ member_below members n q low is | inr high ↦ absurd (false≢true (sym (none q high) ∙ is)) ]))

module _ (members from to : ℕ) (order : from ≤ to) where
  below_skip : ((q : ℕ) → from ≤ q → q < to → has members q ≡ false) → members_below members from ≡ members_below members to
  below_skip none = same_roles _ _ (λ q. same_test _ _
      (λ is. let low : q < from = (below_member members from q is).0 in member_below members to q (omega (arith, low, order)) (below_member members from q is).1)
      (λ is. elim (cases_lt q from) [
        | inl low ↦ member_below members from q low (below_member members to q is).1
        | inr high ↦ absurd (false≢true (sym (none q high (below_member members to q is).0) ∙ (below_member members to q is).1))
      ]))

  below_take : ((q : ℕ) → from ≤ q → q < to → has members q ≡ true) → with_range (members_below members from) from (to - from) ≡ members_below members to
  below_take all = same_roles _ _ (λ q.
      let range = has-with_range (members_below members from) from (to - from) q in
      same_test _ _
      (λ is. elim (range.0 is) [
        | inl old ↦ let low : q < from = (below_member members from q old).0 in member_below members to q (omega (arith, low, order)) (below_member members from q old).1
        | inr new ↦ let low : q < to = omega (arith, new.1, order) in member_below members to q low (all q new.0 low)
      ])
      (λ is. let low : q < to = (below_member members to q is).0 in range.1 (elim (cases_lt q from) [
        | inl before ↦ inl (member_below members from q before (below_member members to q is).1)
        | inr past ↦ inr (past, omega (arith, low, order))
      ])))

  module _ (old now : List ℕ) (i : ℕ) (held : now ≡ set old i (members_below members from)) where
    pub row_skip : ((q : ℕ) → from ≤ q → q < to → has members q ≡ false) → now ≡ set old i (members_below members to)
    row_skip none = held ∙ ap (set old i) (below_skip none)

    pub row_take : ((q : ℕ) → from ≤ q → q < to → has members q ≡ true) → set now i (with_range (get_or now i 0) from (to - from)) ≡ set old i (members_below members to)
    row_take all = elim (cases_lt i (length old)) [
      | inl within ↦
          let row : get_or now i 0 ≡ members_below members from = ap (λ xs. get_or xs i 0) held ∙ get_or-set_same old i (members_below members from) 0 within in
          ap₂ (λ xs r. set xs i (with_range r from (to - from))) held row
          ∙ set_twice old i (members_below members from) (with_range (members_below members from) from (to - from))
          ∙ ap (set old i) (below_take all)
      | inr past ↦
          ap (λ xs. set xs i (with_range (get_or now i 0) from (to - from))) held
          ∙ set_twice old i (members_below members from) (with_range (get_or now i 0) from (to - from))
          ∙ set_past old i (with_range (get_or now i 0) from (to - from)) past
          ∙ sym (set_past old i (members_below members to) past)
    ]

-- what a row is set to is not looked at again
pub held_again : (old now : List ℕ) (i row : ℕ) → now ≡ set old i row → now ≡ set now i row
held_again old now i row held = held ∙ sym (set_twice old i row row) ∙ ap (λ xs. set xs i row) (sym held)

pub held_on : (old now : List ℕ) (i row next : ℕ) → now ≡ set old i row → set now i next ≡ set old i next
held_on old now i row next held = ap (λ xs. set xs i next) held ∙ set_twice old i row next

module _ (ws : List ℕ) (are : AreWords ws) where
  pub past_words : (q : ℕ) → 2048 ≤ q → has (joined ws) q ≡ false
  unfolding has
  past_words q past =
      let none : get_or ws (q / 64) 0 ≡ 0 = get_or_past ws (q / 64) 0 (omega (arith, are.whole, past)) in
      ap (λ d. eqb d 1) (at_word ws are.small q ∙ ap (λ w. bit_at w (q % 64)) none ∙ bit_at-zero (q % 64))

  pub empty_word : (place q : ℕ) → get_or ws place 0 ≡ 0 → 64 * place ≤ q → q < 64 * (place + 1) → has (joined ws) q ≡ false
  unfolding has
  empty_word place q none low high =
      let at : q / 64 ≡ place = omega (arith, low, high) in
      ap (λ d. eqb d 1) (at_word ws are.small q ∙ ap (λ k. bit_at (get_or ws k 0) (q % 64)) at ∙ ap (λ w. bit_at w (q % 64)) none ∙ bit_at-zero (q % 64))

  pub full_word : (place q : ℕ) → get_or ws place 0 ≡ 18446744073709551615 → 64 * place ≤ q → q < 64 * (place + 1) → has (joined ws) q ≡ true
  unfolding has
  full_word place q full low high =
      let at : q / 64 ≡ place = omega (arith, low, high) in
      ap (λ d. eqb d 1) (at_word ws are.small q ∙ ap (λ k. bit_at (get_or ws k 0) (q % 64)) at ∙ ap (λ w. bit_at w (q % 64)) full ∙ bit_at_ones 64 (q % 64) (omega arith))

-- an object that is not taken away is past all that there are
pub emptied : (ws : List ℕ) → AreWords ws → without_range (joined ws) 0 (2048 - 0) ≡ 0
emptied ws are = same_roles _ _ (λ q. same_test _ _
    (λ is. let kept = (has-without_range (joined ws) 0 2048 q).0 is in elim kept.1 [
      | inl low ↦ absurd (omega (arith, low))
      | inr past ↦ absurd (false≢true (sym (past_words ws are q past) ∙ kept.0))
    ])
    (λ is. absurd (false≢true (sym (has-empty q) ∙ is))))
