-- A field is a number exactly where it has the form of one.
use Rattle.std.proofs.Common.{◌≡◌, ℕ, zero, suc, ◌+◌, ◌^◌, ◌<◌, ◌≤◌, Bool, true, false, eqb, cond, List, [], ◌∷◌, ◌++◌, length, replicate, Option, Some, None, inl, inr, refl, sym, ap, ◌∙◌, arith}
use Rattle.std.specs.Prelude.{nat_le, nat_lt, is_some, unwrap_or}
use Rattle.std.specs.List.{slice_split, onto_first, list_all, join_with_byte}
use Rattle.std.specs.Char.{is_ascii_digit}
use Rattle.std.specs.Str.{all_ascii_digits}
use Rattle.std.specs.Str.Parse.{digits_value}
use Rattle.std.proofs.lemmas.List.{append-nil, length-replicate}
use Rattle.std.proofs.lemmas.List.Splits.{slice_split-cons_yes, slice_split-cons_no, join_with_byte-slice_split}
use Rattle.std.proofs.lemmas.Str.Parse.{IsNumeralModel, numerals_by_value, tells_all_ascii_digits, digits_value_short}
use Rattle.std.proofs.lemmas.Bool.Decides.{nat_tests}
use Rattle.text_words.specs.Words.{number, is_number}
use Rattle.solomon_reader.specs.Fields.{whole_number, is_zeros, number_of_parts, field, is_field, field_value, IsZeroTail, IsNumber}
use Rattle.solomon_reader.proofs.Booleans.{both, eq_from, le_from, lt_from, most_of, lt_test}
use Rattle.solomon_reader.proofs.Numbers.{with_zeros, without_dot}

own : IsNumeralModel (λ ds. all_ascii_digits ds ≡ true) (digits_value 10)
own = numerals_by_value _ tells_all_ascii_digits

pub small_value : (digits : List ℕ) → all_ascii_digits digits ≡ true → length digits ≤ 7 → digits_value 10 digits < 10 ^ 7
small_value digits e few = digits_value_short own digits 7 e few

pub number_small : (w : List ℕ) (n : ℕ) → IsNumber w n → n ≤ 9999999
number_small w n h = let l : digits_value 10 h.digits < 10000000 = small_value h.digits h.each h.few in omega (arith, l, h.value)

-- ---- what has the form is read

abbrev is_dot : ℕ → Bool
is_dot b = eqb b 46

no_dot : (b : ℕ) → is_ascii_digit b ≡ true → eqb b 46 ≡ false
no_dot b e = grind (arith, nat_tests)

digits_whole : (digits : List ℕ) → all_ascii_digits digits ≡ true → slice_split is_dot digits ≡ digits ∷ []
digits_whole [] e = refl
digits_whole (b ∷ bs) e =
    let h = both (is_ascii_digit b) (all_ascii_digits bs) e in
    slice_split-cons_no is_dot b bs (no_dot b h.0) ∙ ap (onto_first b) (digits_whole bs h.1)

digits_cut : (digits more : List ℕ) → all_ascii_digits digits ≡ true → slice_split is_dot (digits ++ 46 ∷ more) ≡ digits ∷ slice_split is_dot more
digits_cut [] more e = slice_split-cons_yes is_dot 46 more refl
digits_cut (b ∷ bs) more e =
    let h = both (is_ascii_digit b) (all_ascii_digits bs) e in
    slice_split-cons_no is_dot b (bs ++ 46 ∷ more) (no_dot b h.0) ∙ ap (onto_first b) (digits_cut bs more h.1)

zeros_all : (n : ℕ) → list_all (λ b. eqb b 48) (replicate n 48) ≡ true
zeros_all zero = refl
zeros_all (suc n) = zeros_all n

zeros_test : (more : ℕ) → is_zeros (replicate (more + 1) 48) ≡ true
zeros_test more =
    let zeros : List ℕ = replicate (more + 1) 48 in
    let long : length zeros ≡ more + 1 = length-replicate (more + 1) 48 in
    let some : nat_lt 0 (length zeros) ≡ true = lt_test 0 (length zeros) (omega (arith, long)) in
    rw (some, zeros_all (more + 1)) refl

digits_read : (digits : List ℕ) → 1 ≤ length digits → length digits ≤ 7 → all_ascii_digits digits ≡ true → whole_number digits ≡ Some (digits_value 10 digits)
digits_read digits some few each =
    let l : digits_value 10 digits < 10000000 = small_value digits each few in
    let a : nat_le (length digits) 7 ≡ true = most_of (length digits) 7 few in
    let b : nat_lt 0 (length digits) ≡ true = lt_test 0 (length digits) (omega arith) in
    let c : nat_le (length digits) 10 ≡ true = most_of (length digits) 10 (omega arith) in
    let d : nat_lt (digits_value 10 digits) 4294967296 ≡ true = lt_test (digits_value 10 digits) 4294967296 (omega arith) in
    rw (a, b, c, each, d) refl

tail_read : (w digits tail : List ℕ) → w ≡ digits ++ tail → all_ascii_digits digits ≡ true → IsZeroTail tail → field w ≡ whole_number digits
tail_read w digits tail e each (inl none) =
    let same : w ≡ digits = e ∙ ap (λ (t : List ℕ). digits ++ t) none ∙ append-nil digits in
    ap field same ∙ without_dot digits digits (digits_whole digits each)
tail_read w digits tail e each (inr zeros) =
    let same : w ≡ digits ++ 46 ∷ replicate (zeros.0 + 1) 48 = e ∙ ap (λ (t : List ℕ). digits ++ t) zeros.1 in
    ap field same ∙ with_zeros (digits ++ 46 ∷ replicate (zeros.0 + 1) 48) digits (replicate (zeros.0 + 1) 48) (digits_cut digits (replicate (zeros.0 + 1) 48) each) (zeros_test zeros.0)

pub number_read : (w : List ℕ) (n : ℕ) → IsNumber w n → field w ≡ Some n
number_read w n h = tail_read w h.digits h.tail h.whole h.each h.zeros ∙ digits_read h.digits h.some h.few h.each ∙ ap (λ (v : ℕ). Some v) h.value

-- ---- what is read has the form

some_none : false ≡ true → ⊥
some_none e = cc

guard_some : (b : Bool) (n : ℕ) → is_some (cond b (Some n) None) ≡ true → (b ≡ true) × (unwrap_or (cond b (Some n) None) 0 ≡ n)
guard_some true n e = (refl, refl)
guard_some false n e = absurd (some_none e)

guard_option : (b : Bool) (o : Option ℕ) → is_some (cond b o None) ≡ true → (b ≡ true) × (is_some o ≡ true) × (unwrap_or (cond b o None) 0 ≡ unwrap_or o 0)
guard_option true o e = (refl, e, refl)
guard_option false o e = absurd (some_none e)

pub record IsWhole (digits : List ℕ) : Type 0 where
  pub some : 1 ≤ length digits
  pub few : length digits ≤ 7
  pub each : all_ascii_digits digits ≡ true
  pub value : digits_value 10 digits ≡ unwrap_or (whole_number digits) 0

whole_from : (digits : List ℕ) → is_some (whole_number digits) ≡ true → IsWhole digits
whole_from digits e =
    let a = guard_option (nat_le (length digits) 7) (number digits) e in
    let b = guard_some (is_number digits) (digits_value 10 digits) a.1 in
    let c = both (nat_lt 0 (length digits)) _ b.0 in
    let d = both (nat_le (length digits) 10) _ c.1 in
    let f = both (all_ascii_digits digits) _ d.1 in
    let some : 0 < length digits = lt_from 0 (length digits) c.0 in
    record { some = omega (arith, some); few = le_from (length digits) 7 a.0; each = f.0; value = sym (a.2 ∙ b.1) }

zeros_from : (zeros : List ℕ) → list_all (λ b. eqb b 48) zeros ≡ true → zeros ≡ replicate (length zeros) 48
zeros_from [] e = refl
zeros_from (b ∷ bs) e =
    let h = both (eqb b 48) (list_all (λ c. eqb c 48) bs) e in
    let x : b ≡ 48 = eq_from b 48 h.0 in
    let y : bs ≡ replicate (length bs) 48 = zeros_from bs h.1 in
    ap (λ (c : ℕ). c ∷ bs) x ∙ ap (λ (t : List ℕ). 48 ∷ t) y

tail_from : (zeros : List ℕ) → is_zeros zeros ≡ true → IsZeroTail (46 ∷ zeros)
tail_from [] e = absurd cc
tail_from (b ∷ bs) e =
    let h = both (nat_lt 0 (length (b ∷ bs))) (list_all (λ c. eqb c 48) (b ∷ bs)) e in
    let long : suc (length bs) ≡ length bs + 1 = omega arith in
    let same : b ∷ bs ≡ replicate (length bs + 1) 48 = zeros_from (b ∷ bs) h.1 ∙ ap (λ (k : ℕ). replicate k 48) long in
    inr (length bs, ap (λ (t : List ℕ). 46 ∷ t) same)

form_from : (w : List ℕ) (parts : List (List ℕ)) → join_with_byte 46 parts ≡ w → is_some (number_of_parts parts) ≡ true → IsNumber w (unwrap_or (number_of_parts parts) 0)
form_from w [] j e = absurd (some_none e)
form_from w (digits ∷ []) j e =
    let h = whole_from digits e in
    record { digits = digits; tail = []; whole = sym j ∙ sym (append-nil digits); some = h.some; few = h.few; each = h.each; value = h.value; zeros = inl refl }
form_from w (digits ∷ zeros ∷ []) j e =
    let a = guard_option (is_zeros zeros) (whole_number digits) e in
    let h = whole_from digits a.1 in
    record { digits = digits; tail = 46 ∷ zeros; whole = sym j; some = h.some; few = h.few; each = h.each; value = h.value ∙ sym a.2; zeros = tail_from zeros a.0 }
form_from w (digits ∷ zeros ∷ part ∷ parts) j e = absurd (some_none e)

pub number_form : (w : List ℕ) → is_field w ≡ true → IsNumber w (field_value w)
number_form w e = form_from w (slice_split is_dot w) (join_with_byte-slice_split 46 w) e

-- what is read has its value
pub value_of : (w : List ℕ) (n : ℕ) → IsNumber w n → (is_field w ≡ true) × (field_value w ≡ n)
value_of w n h = let e = number_read w n h in (rw e refl, rw e refl)
