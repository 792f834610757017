-- Whole words of objects.
use Rattle.std.proofs.Common.{◌≡◌, ℕ, zero, suc, ◌+◌, ◌-◌, ◌*◌, ◌/◌, ◌%◌, ◌^◌, ◌<◌, ◌≤◌, min, max, Bool, true, false, inl, inr, ◌⊎◌, ◌↔◌, List, length, get_or, set, eqb, sym, refl, ap, ap₂, ◌∙◌, arith}
use Rattle.std.specs.Prelude.{bit_and, bit_or}
use Rattle.std.specs.Int.{bit_at, bit_not, w64}
use Rattle.std.specs.List.{AllByRecursion}
use Rattle.std.proofs.lemmas.Bool.{cases_eq, cases_lt, eqb-true, eq-eqb}
use Rattle.std.proofs.lemmas.List.{get_or-set_same, get_or-set_other}
use Rattle.std.proofs.lemmas.Nat.Bits.{bit_at_or, bit_at_and, bit_at_not, bit_at-lt, bit_at_mask_inside, bit_at_mask_below, bit_at_mask_above}
use Rattle.role_hierarchy.specs.Roles.{has, with_role, without}
use Rattle.role_hierarchy.specs.RoleLaws.{same_roles}
use Rattle.role_hierarchy.specs.Words.{joined, IsWord}
use Rattle.role_hierarchy.specs.WordLaws.{at_word, small_set}
use Rattle.permission_core.specs.Objects.{with_range, without_range}
use Rattle.permission_core.specs.ObjectLaws.{has-with_range, has-without_range}

same_test : (t u : Bool) → (t ≡ true → u ≡ true) → (u ≡ true → t ≡ true) → t ≡ u
same_test true u f g = sym (f refl)
same_test false true f g = g refl
same_test false false f g = refl

-- where the digits of a mask are 1
one_of : (a : ℕ) → a < 2 → eqb a 1 ≡ true → a ≡ 1
one_of a h e = eqb-true a 1 e

module _ (ws : List ℕ) (small : AllByRecursion IsWord ws) (place low high : ℕ) (within : place < length ws) (order : low ≤ high) (in_word : high ≤ 64) where
  abbrev mask : ℕ
  mask = 2 ^ high - 2 ^ low

  abbrev word : ℕ
  word = get_or ws place 0

  -- a digit is 1 where the object is a member
  member_at : (vs : List ℕ) → AllByRecursion IsWord vs → (q : ℕ) → has (joined vs) q ≡ eqb (bit_at (get_or vs (q / 64) 0) (q % 64)) 1
  unfolding has
  member_at vs are q = ap (λ n. eqb n 1) (at_word vs are q)

  -- the new word at its place, the others elsewhere
  at_place : (v q : ℕ) → q / 64 ≡ place → bit_at (get_or (set ws place v) (q / 64) 0) (q % 64) ≡ bit_at v (q % 64)
  at_place v q e = ap (λ w. bit_at w (q % 64)) (ap (λ k. get_or (set ws place v) k 0) e ∙ get_or-set_same ws place v 0 within)

  off_place : (v q : ℕ) → (q / 64 ≡ place → ⊥) → bit_at (get_or (set ws place v) (q / 64) 0) (q % 64) ≡ bit_at (get_or ws (q / 64) 0) (q % 64)
  off_place v q ne = ap (λ w. bit_at w (q % 64)) (get_or-set_other ws place (q / 64) v 0 ne)

  old_at : (q : ℕ) → q / 64 ≡ place → bit_at (get_or ws (q / 64) 0) (q % 64) ≡ bit_at word (q % 64)
  old_at q e = ap (λ k. bit_at (get_or ws k 0) (q % 64)) e

  inside_one : (q : ℕ) → q / 64 ≡ place → low ≤ q % 64 → q % 64 < high → bit_at mask (q % 64) ≡ 1
  inside_one q e from to = bit_at_mask_inside low high (q % 64) from to

  outside_none : (q : ℕ) → (q % 64 < low) ⊎ (high ≤ q % 64) → bit_at mask (q % 64) ≡ 0
  outside_none q c = elim c [ inl under ↦ bit_at_mask_below low high (q % 64) under | inr past ↦ bit_at_mask_above low high (q % 64) past ]

  -- an object of the word lies within the digits, or outside
  sides : (q : ℕ) → q / 64 ≡ place → ((64 * place + low ≤ q) × (q < 64 * place + low + (high - low)) × (low ≤ q % 64) × (q % 64 < high))
      ⊎ (((q < 64 * place + low) ⊎ (64 * place + low + (high - low) ≤ q)) × ((q % 64 < low) ⊎ (high ≤ q % 64)))
  sides q e = elim (cases_lt (q % 64) low) [
    | inl under ↦ inr (inl (omega arith), inl under)
    | inr from ↦ elim (cases_lt (q % 64) high) [
      | inl to ↦ inl (omega arith, omega arith, from, to)
      | inr past ↦ inr (inr (omega arith), inr past)
    ]
  ]

  far : (q : ℕ) → (q / 64 ≡ place → ⊥) → (64 * place + low ≤ q) × (q < 64 * place + low + (high - low)) → ⊥
  far q ne c = ne (omega (arith, c.0, c.1))

  far_out : (q : ℕ) → (q / 64 ≡ place → ⊥) → (q < 64 * place + low) ⊎ (64 * place + low + (high - low) ≤ q)
  far_out q ne = elim (cases_lt q (64 * place + low)) [
    | inl under ↦ inl under
    | inr from ↦ elim (cases_lt q (64 * place + low + (high - low))) [
      | inl to ↦ absurd (far q ne (from, to))
      | inr past ↦ inr past
    ]
  ]

  abbrev filled : ℕ
  filled = bit_or word mask

  max_one : (a b : ℕ) → b ≡ 1 → a < 2 → max a b ≡ 1
  max_one a b e h = omega arith

  max_none : (a b : ℕ) → b ≡ 0 → max a b ≡ a
  max_none a b e = omega arith

  pub range_inserted : IsWord filled → joined (set ws place filled) ≡ with_range (joined ws) (64 * place + low) (high - low)
  range_inserted is_word = same_roles _ _ (λ q. by q (cases_eq (q / 64) place))
    where
      new : (q : ℕ) → has (joined (set ws place filled)) q ≡ eqb (bit_at (get_or (set ws place filled) (q / 64) 0) (q % 64)) 1
      new q = member_at (set ws place filled) (small_set ws place filled small is_word) q

      by : (q : ℕ) → (q / 64 ≡ place) ⊎ (q / 64 ≡ place → ⊥) → has (joined (set ws place filled)) q ≡ has (with_range (joined ws) (64 * place + low) (high - low)) q
      by q c = elim c [
        | inl e ↦ elim (sides q e) [
          | inl inside ↦
              (let one : bit_at filled (q % 64) ≡ 1 = bit_at_or word mask (q % 64) ∙ max_one _ _ (inside_one q e inside.2 inside.3) (bit_at-lt word (q % 64)) in
              new q ∙ ap (λ n. eqb n 1) (at_place filled q e ∙ one)
              ∙ sym ((has-with_range (joined ws) (64 * place + low) (high - low) q).1 (inr (inside.0, inside.1))))
          | inr outside ↦
              (let same : bit_at filled (q % 64) ≡ bit_at word (q % 64) = bit_at_or word mask (q % 64) ∙ max_none _ _ (outside_none q outside.1) in
              new q ∙ ap (λ n. eqb n 1) (at_place filled q e ∙ same ∙ sym (old_at q e)) ∙ sym (member_at ws small q) ∙ kept q outside.0)
        ]
        | inr ne ↦ new q ∙ ap (λ n. eqb n 1) (off_place filled q ne) ∙ sym (member_at ws small q) ∙ kept q (far_out q ne)
      ]
        where
          kept : (q : ℕ) → (q < 64 * place + low) ⊎ (64 * place + low + (high - low) ≤ q) → has (joined ws) q ≡ has (with_range (joined ws) (64 * place + low) (high - low)) q
          kept q out = same_test _ _
              (λ h. (has-with_range (joined ws) (64 * place + low) (high - low) q).1 (inl h))
              (λ h. elim ((has-with_range (joined ws) (64 * place + low) (high - low) q).0 h) [
                | inl old ↦ old
                | inr inside ↦ elim out [ inl under ↦ absurd (omega (arith, inside.0, under)) | inr past ↦ absurd (omega (arith, inside.1, past)) ]
              ])

  abbrev emptied : ℕ
  emptied = bit_and word (bit_not w64 mask)

  min_none : (a b : ℕ) → b ≡ 1 → min a (1 - b) ≡ 0
  min_none a b e = omega arith

  min_same : (a b : ℕ) → b ≡ 0 → a < 2 → min a (1 - b) ≡ a
  min_same a b e h = omega arith

  pub range_removed : mask < 2 ^ 64 → IsWord emptied → joined (set ws place emptied) ≡ without_range (joined ws) (64 * place + low) (high - low)
  range_removed few is_word = same_roles _ _ (λ q. by q (cases_eq (q / 64) place))
    where
      new : (q : ℕ) → has (joined (set ws place emptied)) q ≡ eqb (bit_at (get_or (set ws place emptied) (q / 64) 0) (q % 64)) 1
      new q = member_at (set ws place emptied) (small_set ws place emptied small is_word) q

      digit : (q : ℕ) → bit_at emptied (q % 64) ≡ min (bit_at word (q % 64)) (1 - bit_at mask (q % 64))
      digit q = bit_at_and word (bit_not w64 mask) (q % 64) ∙ ap (min (bit_at word (q % 64))) (bit_at_not w64 mask (q % 64) few (omega arith))

      by : (q : ℕ) → (q / 64 ≡ place) ⊎ (q / 64 ≡ place → ⊥) → has (joined (set ws place emptied)) q ≡ has (without_range (joined ws) (64 * place + low) (high - low)) q
      by q c = elim c [
        | inl e ↦ elim (sides q e) [
          | inl inside ↦
              (let none : bit_at emptied (q % 64) ≡ 0 = digit q ∙ min_none _ _ (inside_one q e inside.2 inside.3) in
              new q ∙ ap (λ n. eqb n 1) (at_place emptied q e ∙ none) ∙ sym (gone q (inside.0, inside.1)))
          | inr outside ↦
              (let same : bit_at emptied (q % 64) ≡ bit_at word (q % 64) = digit q ∙ min_same _ _ (outside_none q outside.1) (bit_at-lt word (q % 64)) in
              new q ∙ ap (λ n. eqb n 1) (at_place emptied q e ∙ same ∙ sym (old_at q e)) ∙ sym (member_at ws small q) ∙ kept q outside.0)
        ]
        | inr ne ↦ new q ∙ ap (λ n. eqb n 1) (off_place emptied q ne) ∙ sym (member_at ws small q) ∙ kept q (far_out q ne)
      ]
        where
          kept : (q : ℕ) → (q < 64 * place + low) ⊎ (64 * place + low + (high - low) ≤ q) → has (joined ws) q ≡ has (without_range (joined ws) (64 * place + low) (high - low)) q
          kept q out = same_test _ _
              (λ h. (has-without_range (joined ws) (64 * place + low) (high - low) q).1 (h, out))
              (λ h. ((has-without_range (joined ws) (64 * place + low) (high - low) q).0 h).0)

          gone : (q : ℕ) → (64 * place + low ≤ q) × (q < 64 * place + low + (high - low)) → has (without_range (joined ws) (64 * place + low) (high - low)) q ≡ false
          gone q inside = by_test (has (without_range (joined ws) (64 * place + low) (high - low)) q) refl
            where
              by_test : (t : Bool) → has (without_range (joined ws) (64 * place + low) (high - low)) q ≡ t → has (without_range (joined ws) (64 * place + low) (high - low)) q ≡ false
              by_test false h = h
              by_test true h = elim ((has-without_range (joined ws) (64 * place + low) (high - low) q).0 h).1 [ inl under ↦ absurd (omega (arith, inside.0, under)) | inr past ↦ absurd (omega (arith, inside.1, past)) ]

-- two ranges, one following the other
pub with_range-join : (set first n m : ℕ) → with_range (with_range set first n) (first + n) m ≡ with_range set first (n + m)
unfolding with_range
with_range-join set first n zero = (let same : n ≡ n + 0 = omega arith in ap (with_range set first) same)
with_range-join set first n (suc m) =
    let next : first + n + m ≡ first + (n + m) = omega arith in
    let more : suc (n + m) ≡ n + suc m = omega arith in
    ap₂ with_role (with_range-join set first n m) next ∙ ap (with_range set first) more

pub without_range-join : (set first n m : ℕ) → without_range (without_range set first n) (first + n) m ≡ without_range set first (n + m)
unfolding without_range
without_range-join set first n zero = (let same : n ≡ n + 0 = omega arith in ap (without_range set first) same)
without_range-join set first n (suc m) =
    let next : first + n + m ≡ first + (n + m) = omega arith in
    let more : suc (n + m) ≡ n + suc m = omega arith in
    ap₂ without (without_range-join set first n m) next ∙ ap (without_range set first) more

-- a range that continues where another ended
pub with_range-on : (set first from at n end : ℕ) → first ≤ from → at ≡ from → end ≡ from + n → with_range (with_range set first (from - first)) at n ≡ with_range set first (end - first)
with_range-on set first from at n end h is ends =
    let start : at ≡ first + (from - first) = omega arith in
    let size : from - first + n ≡ end - first = omega arith in
    ap (λ a. with_range (with_range set first (from - first)) a n) start ∙ with_range-join set first (from - first) n ∙ ap (with_range set first) size

-- a range that continues where another ended
pub without_range-on : (set first from at n end : ℕ) → first ≤ from → at ≡ from → end ≡ from + n → without_range (without_range set first (from - first)) at n ≡ without_range set first (end - first)
without_range-on set first from at n end h is ends =
    let start : at ≡ first + (from - first) = omega arith in
    let size : from - first + n ≡ end - first = omega arith in
    ap (λ a. without_range (without_range set first (from - first)) a n) start ∙ without_range-join set first (from - first) n ∙ ap (without_range set first) size
