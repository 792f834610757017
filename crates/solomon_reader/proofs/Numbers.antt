-- A number is digits, followed by nothing or by a dot and zeros.
use Rattle.std.proofs.Common.{◌≡◌, ℕ, ◌<◌, Bool, true, false, eqb, List, [], ◌∷◌, length, None, refl, ap, ◌∙◌, arith}
use Rattle.std.specs.List.{slice_split, onto_first, list_all, join_with_byte}
use Rattle.std.proofs.lemmas.List.Splits.{slice_split-cons_no, length-slice_split, join_with_byte-slice_split}
use Rattle.std.proofs.lemmas.Bool.Decides.{nat_tests}
use Rattle.solomon_reader.specs.Fields.{whole_number, is_zeros, number_of_parts, field}
use Rattle.solomon_reader.proofs.Booleans.{both, some_of}

abbrev is_dot : ℕ → Bool
is_dot b = eqb b 46

no_dot : (b : ℕ) → eqb b 48 ≡ true → eqb b 46 ≡ false
no_dot b e = grind (arith, nat_tests)

zeros_whole : (zeros : List ℕ) → list_all (λ b. eqb b 48) zeros ≡ true → slice_split is_dot zeros ≡ zeros ∷ []
zeros_whole [] e = refl
zeros_whole (b ∷ bs) e =
    let h = both (eqb b 48) (list_all (λ c. eqb c 48) bs) e in
    slice_split-cons_no is_dot b bs (no_dot b h.0) ∙ ap (onto_first b) (zeros_whole bs h.1)

pub with_zeros : (word digits zeros : List ℕ) → slice_split is_dot word ≡ digits ∷ slice_split is_dot zeros → is_zeros zeros ≡ true → field word ≡ whole_number digits
with_zeros word digits zeros cut e =
    let h = both _ (list_all (λ b. eqb b 48) zeros) e in
    ap number_of_parts (cut ∙ ap (λ (l : List (List ℕ)). digits ∷ l) (zeros_whole zeros h.1)) ∙ (rw e refl)

no_zeros : (digits rest : List ℕ) (parts : List (List ℕ)) → join_with_byte 46 parts ≡ rest → 0 < length parts → is_zeros rest ≡ false → number_of_parts (digits ∷ parts) ≡ None
no_zeros digits rest [] j lt e = absurd (omega arith)
no_zeros digits rest (part ∷ []) j lt e = let e' : is_zeros part ≡ false = rw j e in rw e' refl
no_zeros digits rest (part ∷ next ∷ parts) j lt e = refl

pub without_zeros : (word digits rest : List ℕ) → slice_split is_dot word ≡ digits ∷ slice_split is_dot rest → is_zeros rest ≡ false → field word ≡ None
without_zeros word digits rest cut e =
    ap number_of_parts cut ∙ no_zeros digits rest (slice_split is_dot rest) (join_with_byte-slice_split 46 rest) (omega (arith, length-slice_split is_dot rest)) e

pub without_dot : (word digits : List ℕ) → slice_split is_dot word ≡ digits ∷ [] → field word ≡ whole_number digits
without_dot word digits cut = ap number_of_parts cut

pub all_zeros : (text : List ℕ) (r : Bool) → eqb (length text) 0 ≡ false → r ≡ list_all (λ b. eqb b 48) text → r ≡ is_zeros text
all_zeros text r some e = rw (some_of (length text) some) e
