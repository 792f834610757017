-- Spaces and tabs are dropped one by one.
use Rattle.std.proofs.Common.{◌≡◌, ◌≤◌, ℕ, Bool, true, false, eqb, length, List, [], ◌∷◌, ◌++◌, reverse, refl, sym, ap, ◌∙◌}
use Rattle.std.proofs.lemmas.List.{reverse-append, reverse-reverse}
use Rattle.text_words.specs.Words.{is_gap}
use Rattle.solomon_reader.specs.Fields.{trimmed_start, trimmed_end, is_name_byte, is_name}
use Rattle.std.specs.List.{list_all}
use Rattle.solomon_reader.proofs.Booleans.{least_of, most_of}

pub start_more : (b : ℕ) (bs : List ℕ) → is_gap b ≡ true → trimmed_start (b ∷ bs) ≡ trimmed_start bs
start_more b bs e = rw e refl

pub start_done : (b : ℕ) (bs : List ℕ) → is_gap b ≡ false → trimmed_start (b ∷ bs) ≡ b ∷ bs
start_done b bs e = rw e refl

pub end_more : (b : ℕ) (bs : List ℕ) → is_gap b ≡ true → trimmed_end (bs ++ b ∷ []) ≡ trimmed_end bs
end_more b bs e = ap reverse (ap trimmed_start (reverse-append bs (b ∷ [])) ∙ start_more b (reverse bs) e)

pub end_done : (b : ℕ) (bs : List ℕ) → is_gap b ≡ false → trimmed_end (bs ++ b ∷ []) ≡ bs ++ b ∷ []
end_done b bs e =
    let first : trimmed_end (bs ++ b ∷ []) ≡ reverse (b ∷ reverse bs) = ap reverse (ap trimmed_start (reverse-append bs (b ∷ [])) ∙ start_done b (reverse bs) e) in
    let last : reverse (b ∷ reverse bs) ≡ bs ++ b ∷ [] = sym (ap reverse (reverse-append bs (b ∷ []))) ∙ reverse-reverse (bs ++ b ∷ []) in
    first ∙ last

pub all_printed : (text : List ℕ) (r : Bool) → eqb (length text) 0 ≡ false → length text ≤ 64 → r ≡ list_all is_name_byte text → r ≡ is_name text
all_printed text r some few e = rw (least_of (length text) some, most_of (length text) 64 few) e
