-- The places of a byte among 32, by bits, and what bits say of the ends of words.
use Rattle.std.proofs.Common.{inl, inr, ◌≡◌, ◌≢◌, ◌↔◌, ℕ, ◌+◌, ◌-◌, ◌%◌, ◌^◌, ◌<◌, ◌≤◌, Bool, true, false, cond, eqb, ◌||◌, List, length, get_or, map, replicate, max, bit_or, refl, sym, ap, ◌∙◌, arith, subst, w8}
use Rattle.std.specs.Int.{bit_at}
use Rattle.std.specs.Simd.Lanes.{zip2, mask_l, top, chunk}
use Rattle.std.proofs.lemmas.Simd.{bitmask_splat, bit_mask_l, length-chunk, get_or-chunk}
use Rattle.std.proofs.lemmas.Nat.Bits.{bit_at_or}
use Rattle.std.proofs.lemmas.List.{get_or_past}
use Rattle.std.proofs.Math.ListN.{get_or-map}
use Rattle.std.proofs.Math.Nat.{zero-div, div-eq_of_lt, two-pow-succ}
use Rattle.std.proofs.Common.{pow_pos, zero, suc}
use Rattle.std.proofs.lemmas.Bool.{cases_lt, cases_Bool, both_ways}
use Rattle.text_words.specs.Words.{ends_word}
use Rattle.text_words.specs.Ends.{EndsNoWord, IsWordEnd, AreWordEnds}

-- the lanes that hold a byte, a bit for each
abbrev marked : List ℕ → ℕ → ℕ
marked xs y = mask_l (map (top 7) (zip2 (λ a b. cond (eqb a b) 255 0) xs (replicate 32 y))) % 2 ^ 64

bit_of_lane : (xs : List ℕ) (y k : ℕ) → length xs ≡ 32 → eqb 0 y ≡ false → bit_at (marked xs y) k ≡ cond (eqb (get_or xs k 0) y) 1 0
bit_of_lane xs y k long other =
    ap (λ m. bit_at m k) (bitmask_splat w8 eqb xs 32 y long (omega arith))
    ∙ bit_mask_l (map (λ x. eqb x y) xs) k
    ∙ ap (λ b. cond b 1 0) (ap (get_or (map (λ x. eqb x y) xs) k) (sym other) ∙ get_or-map (λ x. eqb x y) xs k 0)

at_most_one : (b : Bool) → cond {A = ℕ} b 1 0 ≤ 1
at_most_one true = omega arith
at_most_one false = omega arith

any_of : (p q r : Bool) → (max (max (cond p 1 0) (cond q 1 0)) (cond r 1 0) ≡ 1) ↔ (((p || q) || r) ≡ true)
any_of true q r = (λ h. refl, λ h. omega (arith, at_most_one q, at_most_one r))
any_of false true r = (λ h. refl, λ h. omega (arith, at_most_one r))
any_of false false true = (λ h. refl, λ h. refl)
any_of false false false = (λ h. absurd (omega arith), λ h. absurd (both_ways false refl h))

lanes_end : (xs : List ℕ) (k : ℕ) → length xs ≡ 32
    → (bit_at (bit_or (bit_or (marked xs 32) (marked xs 9)) (marked xs 10)) k ≡ 1) ↔ (ends_word (get_or xs k 0) ≡ true)
lanes_end xs k long =
    let a = marked xs 32 in
    let b = marked xs 9 in
    let c = marked xs 10 in
    let x = get_or xs k 0 in
    let e : bit_at (bit_or (bit_or a b) c) k ≡ max (max (cond (eqb x 32) 1 0) (cond (eqb x 9) 1 0)) (cond (eqb x 10) 1 0) =
    bit_at_or (bit_or a b) c k ∙ ap (λ n. max n (bit_at c k)) (bit_at_or a b k)
    ∙ (λ i. max (max (bit_of_lane xs 32 k long refl i) (bit_of_lane xs 9 k long refl i)) (bit_of_lane xs 10 k long refl i)) in
    let any = any_of (eqb x 32) (eqb x 9) (eqb x 10) in
    (λ h. any.0 (sym e ∙ h), λ h. e ∙ any.1 h)

-- the places of 32 of a text where words end
pub ends_by_lanes : (text : List ℕ) (at k : ℕ) → at + 32 ≤ length text
    → (bit_at (bit_or (bit_or (marked (chunk at 32 text) 32) (marked (chunk at 32 text) 9)) (marked (chunk at 32 text) 10)) k ≡ 1) ↔ ((k < 32) × (ends_word (get_or text (at + k) 0) ≡ true))
ends_by_lanes text at k room =
    let xs = chunk at 32 text in
    let long = length-chunk at 32 text room in
    let tells = lanes_end xs k long in
    elim (cases_lt k 32) [
      | inl low ↦
          let same = get_or-chunk at 32 text k 0 low in
          (λ h. (low, subst (λ (x : ℕ). ends_word x ≡ true) same (tells.0 h)), λ h. tells.1 (subst (λ (x : ℕ). ends_word x ≡ true) (sym same) h.1))
      | inr past ↦
          let none : get_or xs k 0 ≡ 0 = get_or_past xs k 0 (omega arith) in
          (λ h. absurd (both_ways false refl (subst (λ (x : ℕ). ends_word x ≡ true) none (tells.0 h))), λ h. absurd (omega arith))
    ]

-- a bit of nothing, and of one
pub no_bit : (k : ℕ) → bit_at 0 k ≡ 0
no_bit k = ap (λ n. n % 2) (zero-div (2 ^ k))

only_bit : (k : ℕ) → bit_at 1 k ≡ 1 → k ≡ 0
only_bit zero set = refl
only_bit (suc k) set =
    let small : 1 < 2 ^ suc k = omega (arith, two-pow-succ k, pow_pos k) in
    absurd (omega (arith, set, ap (λ n. n % 2) (div-eq_of_lt small)))

none_where : (text : List ℕ) (k : ℕ) → (ends_word (get_or text k 0) ≡ true → ⊥) → ends_word (get_or text k 0) ≡ false
none_where text k refuted = elim (cases_Bool (ends_word (get_or text k 0))) [
  | inl end ↦ absurd (refuted end)
  | inr other ↦ other
]

-- before the lowest bit no word ends
pub none_before : (text : List ℕ) (from base bits bit : ℕ) → AreWordEnds text from base bits → bit_at bits bit ≡ 1 → ((k : ℕ) → k < bit → bit_at bits k ≡ 0) → EndsNoWord text from (base + bit)
none_before text from base bits bit ends set below i low high =
    elim (cases_lt i base) [
      | inl near ↦ ends.none i low near
      | inr far ↦
          let k = i - base in
          let place : base + k ≡ i = omega arith in
          none_where text i (λ end.
          let there = ends.each k bit (omega arith) set (omega arith) (subst (λ (j : ℕ). ends_word (get_or text j 0) ≡ true) (sym place) end) in
          omega (arith, there, below k (omega arith)))
    ]

pub none_then : (text : List ℕ) (a b c : ℕ) → EndsNoWord text a b → EndsNoWord text b c → EndsNoWord text a c
none_then text a b c first then = λ k low high. elim (cases_lt k b) [
  | inl lt ↦ first k low lt
  | inr ge ↦ then k ge high
]

-- 32 places without bits
pub none_among : (text : List ℕ) (at bits : ℕ) → bits ≡ 0 → ((k : ℕ) → (bit_at bits k ≡ 1) ↔ ((k < 32) × (ends_word (get_or text (at + k) 0) ≡ true))) → EndsNoWord text at (at + 32)
none_among text at bits nil tells k ge lt =
    let bit = k - at in
    let place : at + bit ≡ k = omega arith in
    none_where text k (λ end.
    let set = (tells bit).1 (omega arith, subst (λ (i : ℕ). ends_word (get_or text i 0) ≡ true) (sym place) end) in
    omega (arith, set, no_bit bit, ap (λ n. bit_at n bit) nil))

-- the ends among 32 places
pub ends_of_lanes : (text : List ℕ) (from at bits : ℕ) → from ≤ at → at + 32 ≤ length text → EndsNoWord text from at → ((k : ℕ) → (bit_at bits k ≡ 1) ↔ ((k < 32) × (ends_word (get_or text (at + k) 0) ≡ true))) → AreWordEnds text from at bits
ends_of_lanes text from at bits le room none tells = record {
  none = none;
  each = λ k j lt set low end. (tells k).1 (omega (arith, ((tells j).0 set).0), end);
  only = λ k set. (record { low = omega arith; high = omega (arith, ((tells k).0 set).0); end = ((tells k).0 set).1 }, omega (arith, ((tells k).0 set).0));
}

-- one end alone
pub one_end : (text : List ℕ) (from at : ℕ) → from ≤ at → at < length text → EndsNoWord text from at → ends_word (get_or text at 0) ≡ true → AreWordEnds text from at 1
one_end text from at le room none end = record {
  none = none;
  each = λ k j lt set low there. absurd (omega (arith, only_bit j set));
  only = λ k set.
      let first = only_bit k set in
      (subst (λ (i : ℕ). IsWordEnd text from i) (omega (arith, first)) (record { low = le; high = room; end = end }), omega (arith, first));
}

-- the ends after the first of them
pub ends_behind : (text : List ℕ) (from base bits bit left : ℕ) → AreWordEnds text from base bits → bit_at bits bit ≡ 1 → ((k : ℕ) → k < bit → bit_at bits k ≡ 0)
    → ((k : ℕ) → k < 64 → k ≢ bit → bit_at left k ≡ bit_at bits k) → ((k : ℕ) → bit_at left k ≡ 1 → (bit_at bits k ≡ 1) × (k ≢ bit))
    → AreWordEnds text (base + bit + 1) base left
ends_behind text from base bits bit left ends set below kept fewer =
    let low = (ends.only bit set).0.low in
    record {
      none = λ i ge lt. absurd (omega arith);
      each = λ k j lt there ge end.
          let small = (ends.only j (fewer j there).0).1 in
          let before = ends.each k j lt (fewer j there).0 (omega arith) end in
          omega (arith, before, kept k (omega arith) (λ same. omega (arith, same)));
      only = λ k there.
          let old = fewer k there in
          let at = ends.only k old.0 in (
            record {
              low = elim (cases_lt k bit) [
                | inl lt ↦ absurd (omega (arith, old.0, below k lt))
                | inr ge ↦ omega (arith, old.1)
              ];
              high = at.0.high;
              end = at.0.end;
            },
            at.1,
          );
    }
