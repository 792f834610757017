-- A word without its lowest digit 1.
use Rattle.std.proofs.Common.{◌≡◌, ℕ, ◌*◌, ◌%◌, ◌^◌, ◌<◌, ◌≤◌, Bool, true, false, sym, refl, ap, ◌∙◌, arith, inl, inr, eqb, subst}
use Rattle.std.specs.Prelude.{bit_and}
use Rattle.std.specs.Int.{bit_not, trailing_zeros, w64}
use Rattle.std.proofs.lemmas.Bool.{cases_eq, cases_lt, and_parts, true≢false}
use Rattle.std.proofs.lemmas.Nat.Bits.{bit_at-trailing_zeros, bit_at_clear_same, bit_at_clear_other, bit_at_above}
use lib.Bits.{and_le_l}
use Rattle.role_hierarchy.specs.Roles.{has}
use Rattle.role_hierarchy.specs.RoleLaws.{has-bit_and}

module _ (word : ℕ) (some : 0 < word) (small : word < 2 ^ 64) where
  abbrev pub low : ℕ
  low = trailing_zeros w64 word

  abbrev pub rest_of : ℕ
  rest_of = bit_and word (bit_not w64 (1 * 2 ^ trailing_zeros w64 word % 2 ^ 64))

  pub low_small : low < 64
  low_small = (bit_at-trailing_zeros w64 word some small).0

  pub has_low : has word low ≡ true
  unfolding has
  has_low = ap (λ n. eqb n 1) (bit_at-trailing_zeros w64 word some small).1

  no_low : has rest_of low ≡ false
  unfolding has
  no_low = ap (λ n. eqb n 1) (bit_at_clear_same w64 word low low_small)

  pub rest_less : rest_of < word
  rest_less = below rest_of (and_le_l word _) (λ e. true≢false (sym has_low ∙ ap (λ n. has n low) (sym e) ∙ no_low))
    where
      below : (n : ℕ) → n ≤ word → (n ≡ word → ⊥) → n < word
      below n h apart = omega (arith, h, apart)

  pub rest_within : (q : ℕ) → has rest_of q ≡ true → has word q ≡ true
  rest_within q h = (and_parts _ _ (sym (has-bit_and word _ q) ∙ h)).0

  high : (q : ℕ) → 64 ≤ q → has word q ≡ false
  unfolding has
  high q h = ap (λ n. eqb n 1) (bit_at_above word 64 q small h)

  other : (q : ℕ) → q < 64 → (q ≡ low → ⊥) → has rest_of q ≡ has word q
  unfolding has
  other q h apart = ap (λ n. eqb n 1) (bit_at_clear_other w64 word low low_small q h apart)

  pub only_low : (q : ℕ) → has word q ≡ true → has rest_of q ≡ false → q ≡ low
  only_low q here gone = elim (cases_eq q low) [
    | inl e ↦ e
    | inr ne ↦ elim (cases_lt q 64) [
      | inl h ↦ absurd (true≢false (sym here ∙ sym (other q h ne) ∙ gone))
      | inr h ↦ absurd (true≢false (sym here ∙ high q h))
    ]
  ]

  -- where all but the lowest are settled, and the lowest is, all are
  pub past_low : (Is : ℕ → Type 0) → Is low → ((q : ℕ) → has word q ≡ false → Is q) → (q : ℕ) → has rest_of q ≡ false → Is q
  past_low Is here past q gone = by (has word q) refl
    where
      by : (b : Bool) → has word q ≡ b → Is q
      by false e = past q e
      by true e = subst Is (sym (only_low q e gone)) here
