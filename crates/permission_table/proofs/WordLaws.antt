-- Words of a row that are joined one by one.
use Rattle.std.proofs.Common.{◌≡◌, ℕ, suc, ◌+◌, ◌-◌, ◌*◌, ◌/◌, ◌%◌, ◌^◌, ◌<◌, ◌≤◌, max, Bool, true, false, cond, ◌&&◌, ◌||◌, eqb, leb, ltb, List, [], ◌∷◌, get_or, set, length, inl, inr, refl, sym, ap, ap₂, ◌∙◌, arith}
use Rattle.std.proofs.lemmas.Bool.{and_parts, and_from, cases_eq, cases_lt, le-leb, lt-ltb, leb-true, ltb-true, false≢true}
use Rattle.std.proofs.lemmas.List.{get_or-set_same, get_or-set_other}
use Rattle.std.specs.Prelude.{bit_or}
use Rattle.role_hierarchy.specs.Roles.{has}
use Rattle.role_hierarchy.specs.RoleLaws.{has-bit_or, has-bit_and, has-empty, same_roles}
use Rattle.permission_core.specs.Objects.{with_range}
use Rattle.permission_core.specs.ObjectLaws.{has-with_range}
use Rattle.permission_table.specs.Rights.{is_in_words, part_of}
use Rattle.std.specs.Int.{bit_at}
use Rattle.std.specs.List.{AllByRecursion}
use Rattle.std.proofs.lemmas.Nat.{or_lt}
use Rattle.std.proofs.lemmas.Nat.Bits.{bit_at_or, same_from_bits}
use Rattle.role_hierarchy.specs.Words.{joined, IsWord}
use Rattle.role_hierarchy.specs.WordLaws.{at_word, word_small}

same_bits : (t u : Bool) → (t ≡ true → u ≡ true) → (u ≡ true → t ≡ true) → t ≡ u
same_bits true u f g = sym (f refl)
same_bits false true f g = g refl
same_bits false false f g = refl

-- which objects are in some words
pub has-part_of : (low high row number : ℕ) → has (part_of low high row) number ≡ (has row number && is_in_words low high number)
has-part_of low high row number =
    has-bit_and row (with_range 0 (64 * low) (64 * (high - low))) number
    ∙ ap (λ t. has row number && t) (same_bits _ _
    (λ h. elim ((has-with_range 0 (64 * low) (64 * (high - low)) number).0 h) [
      | inl none ↦ absurd (false≢true (sym (has-empty number) ∙ none))
      | inr r ↦ and_from _ _ (le-leb low (number / 64) (omega (arith, r.0))) (lt-ltb (number / 64) high (omega (arith, r.1, r.0)))
    ])
    (λ h. (let parts = and_parts _ _ h in
    let above : low ≤ number / 64 = leb-true low (number / 64) parts.0 in
    let below : number / 64 < high = ltb-true (number / 64) high parts.1 in
    (has-with_range 0 (64 * low) (64 * (high - low)) number).1 (inr (omega (arith, above), omega (arith, above, below))))))

each_small : (ws : List ℕ) → ((k : ℕ) → get_or ws k 0 < 2 ^ 64) → AllByRecursion IsWord ws
each_small [] each = tt
each_small (w ∷ ws) each = (each 0, each_small ws (λ k. each (suc k)))

module _ (ws vs xs us : List ℕ) (small : AllByRecursion IsWord ws) (small_one : AllByRecursion IsWord vs) (small_other : AllByRecursion IsWord xs)
    (each : (k : ℕ) → get_or us k 0 ≡ bit_or (bit_or (get_or ws k 0) (get_or vs k 0)) (get_or xs k 0)) where
  -- they are words
  pub small_joined : AllByRecursion IsWord us
  small_joined = each_small us (λ k.
      let both = or_lt 64 (get_or ws k 0) (get_or vs k 0) (word_small ws k small) (word_small vs k small_one) in
      omega (arith, each k, or_lt 64 (bit_or (get_or ws k 0) (get_or vs k 0)) (get_or xs k 0) both (word_small xs k small_other)))

  -- and they make the union
  pub number_joined : joined us ≡ bit_or (bit_or (joined ws) (joined vs)) (joined xs)
  number_joined = same_from_bits (joined us) (bit_or (bit_or (joined ws) (joined vs)) (joined xs)) (λ q.
      at_word us small_joined q
      ∙ ap (λ w. bit_at w (q % 64)) (each (q / 64))
      ∙ bit_at_or (bit_or (get_or ws (q / 64) 0) (get_or vs (q / 64) 0)) (get_or xs (q / 64) 0) (q % 64)
      ∙ ap₂ max (bit_at_or (get_or ws (q / 64) 0) (get_or vs (q / 64) 0) (q % 64) ∙ ap₂ max (sym (at_word ws small q)) (sym (at_word vs small_one q))) (sym (at_word xs small_other q))
      ∙ ap (λ n. max n (bit_at (joined xs) q)) (sym (bit_at_or (joined ws) (joined vs) q))
      ∙ sym (bit_at_or (bit_or (joined ws) (joined vs)) (joined xs) q))

-- a bit is in its word
word_bit : (ws : List ℕ) → AllByRecursion IsWord ws → (number : ℕ) → has (joined ws) number ≡ has (get_or ws (number / 64) 0) (number % 64)
unfolding has
word_bit ws small number = ap (λ b. eqb b 1) (at_word ws small number)

not_le : (a b : ℕ) → b < a → leb a b ≡ false
not_le a b h = by (leb a b) refl
  where
    by : (t : Bool) → leb a b ≡ t → t ≡ false
    by true e = absurd (omega (arith, leb-true a b e, h))
    by false e = refl

not_lt : (a b : ℕ) → b ≤ a → ltb a b ≡ false
not_lt a b h = by (ltb a b) refl
  where
    by : (t : Bool) → ltb a b ≡ t → t ≡ false
    by true e = absurd (omega (arith, ltb-true a b e, h))
    by false e = refl

-- words that are joined with others in some places, place by place
pub each_added : (ws vs us : List ℕ) (low high : ℕ)
    → ((k : ℕ) → low ≤ k → k < high → get_or us k 0 ≡ bit_or (get_or ws k 0) (get_or vs k 0)) → ((k : ℕ) → k < low → get_or us k 0 ≡ get_or ws k 0) → ((k : ℕ) → high ≤ k → get_or us k 0 ≡ get_or ws k 0)
    → (k : ℕ) → get_or us k 0 ≡ cond (leb low k && ltb k high) (bit_or (get_or ws k 0) (get_or vs k 0)) (get_or ws k 0)
each_added ws vs us low high inside below above k = elim (cases_lt k low) [
  | inl before ↦ below k before ∙ sym (ap (λ t. cond (t && ltb k high) (bit_or (get_or ws k 0) (get_or vs k 0)) (get_or ws k 0)) (not_le low k before))
  | inr from ↦ elim (cases_lt k high) [
    | inl within ↦ inside k from within ∙ sym (ap₂ (λ t u. cond (t && u) (bit_or (get_or ws k 0) (get_or vs k 0)) (get_or ws k 0)) (le-leb low k from) (lt-ltb k high within))
    | inr past ↦ above k past ∙ sym (ap₂ (λ t u. cond (t && u) (bit_or (get_or ws k 0) (get_or vs k 0)) (get_or ws k 0)) (le-leb low k from) (not_lt k high past))
  ]
]

-- the words that are joined with others are some alone
module _ (ws vs us : List ℕ) (small : AllByRecursion IsWord ws) (small_other : AllByRecursion IsWord vs) (low high : ℕ)
    (each : (k : ℕ) → get_or us k 0 ≡ cond (leb low k && ltb k high) (bit_or (get_or ws k 0) (get_or vs k 0)) (get_or ws k 0)) where
  pub small_added : AllByRecursion IsWord us
  small_added = each_small us (λ k. by k (leb low k && ltb k high) (each k))
    where
      by : (k : ℕ) (t : Bool) → get_or us k 0 ≡ cond t (bit_or (get_or ws k 0) (get_or vs k 0)) (get_or ws k 0) → get_or us k 0 < 2 ^ 64
      by k true e = omega (arith, e, or_lt 64 (get_or ws k 0) (get_or vs k 0) (word_small ws k small) (word_small vs k small_other))
      by k false e = omega (arith, e, word_small ws k small)

  has_added : (number : ℕ) → has (joined us) number ≡ (has (joined ws) number || (has (joined vs) number && is_in_words low high number))
  has_added number = word_bit us small_added number ∙ by (is_in_words low high number) (each (number / 64))
    where
      or_none : (a b : Bool) → a ≡ (a || (b && false))
      or_none true b = refl
      or_none false true = refl
      or_none false false = refl

      and_true : (b : Bool) → (b && true) ≡ b
      and_true true = refl
      and_true false = refl

      by : (t : Bool) → get_or us (number / 64) 0 ≡ cond t (bit_or (get_or ws (number / 64) 0) (get_or vs (number / 64) 0)) (get_or ws (number / 64) 0)
          → has (get_or us (number / 64) 0) (number % 64) ≡ (has (joined ws) number || (has (joined vs) number && t))
      by true e =
          ap (λ w. has w (number % 64)) e ∙ has-bit_or (get_or ws (number / 64) 0) (get_or vs (number / 64) 0) (number % 64)
          ∙ ap₂ (λ a b. a || b) (sym (word_bit ws small number)) (sym (word_bit vs small_other number) ∙ sym (and_true (has (joined vs) number)))
      by false e =
          ap (λ w. has w (number % 64)) e ∙ sym (word_bit ws small number) ∙ or_none (has (joined ws) number) (has (joined vs) number)

  pub number_added : joined us ≡ bit_or (joined ws) (part_of low high (joined vs))
  number_added = same_roles (joined us) (bit_or (joined ws) (part_of low high (joined vs))) (λ number.
      has_added number
      ∙ ap (λ t. has (joined ws) number || t) (sym (has-part_of low high (joined vs) number))
      ∙ sym (has-bit_or (joined ws) (part_of low high (joined vs)) number))

-- one more word is written, the others stay
module _ (f : ℕ → ℕ) (place v : ℕ) (ws : List ℕ) where
  pub written_at : (P : ℕ → Type 0) → place < length ws → v ≡ f place → ((k : ℕ) → P k → k < place → get_or ws k 0 ≡ f k) → (k : ℕ) → P k → k < place + 1 → get_or (set ws place v) k 0 ≡ f k
  written_at P within is before k here low = elim (cases_eq k place) [
    | inl e ↦ ap (λ i. get_or (set ws place v) i 0) e ∙ get_or-set_same ws place v 0 within ∙ is ∙ ap f (sym e)
    | inr ne ↦ get_or-set_other ws place k v 0 ne ∙ before k here (omega (arith, low, ne))
  ]

  pub written_past : ((k : ℕ) → place ≤ k → get_or ws k 0 ≡ f k) → (k : ℕ) → place + 1 ≤ k → get_or (set ws place v) k 0 ≡ f k
  written_past after k high = get_or-set_other ws place k v 0 (omega (arith, high)) ∙ after k (omega (arith, high))

  pub written_below : (from : ℕ) → from ≤ place → ((k : ℕ) → k < from → get_or ws k 0 ≡ f k) → (k : ℕ) → k < from → get_or (set ws place v) k 0 ≡ f k
  written_below from order before k low = get_or-set_other ws place k v 0 (omega (arith, low, order)) ∙ before k low

-- places of the words
pub in_words : (place end n : ℕ) → place < end → end ≤ 32 → n ≡ 32 → place < n
in_words place end n below few whole = omega (arith, below, few, whole)

pub itself : (n : ℕ) → n ≤ n
itself n = omega arith

pub one_up : (a b : ℕ) → a ≤ b → a ≤ b + 1
one_up a b h = omega (arith, h)

pub next_within : (a b : ℕ) → a < b → a + 1 ≤ b
next_within a b h = omega (arith, h)
