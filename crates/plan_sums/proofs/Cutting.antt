-- A text is cut at its line ends.
use Rattle.std.proofs.Common.{◌≡◌, ℕ, suc, ◌<◌, false, eqb, List, [], ◌∷◌, length, refl, sym, ap, ◌∙◌, arith}
use Rattle.std.specs.List.{slice_split, join_with_byte}
use Rattle.std.specs.Io.BufRead.{strip_last}
use Rattle.std.proofs.lemmas.List.Splits.{length-slice_split, join_with_byte-slice_split}
use Rattle.std.proofs.lemmas.Bool.Decides.{nat_tests}
use Rattle.solomon_reader.specs.Cuts.{lines, lines_of_parts}

first_of : (part : List ℕ) (parts : List (List ℕ)) → 0 < length parts → lines_of_parts (part ∷ parts) ≡ strip_last 13 part ∷ lines_of_parts parts
first_of part [] lt = absurd (omega arith)
first_of part (next ∷ parts) lt = refl

pub line_cut : (text line rest : List ℕ) → slice_split (λ b. eqb b 10) text ≡ line ∷ slice_split (λ b. eqb b 10) rest → lines text ≡ strip_last 13 line ∷ lines rest
unfolding lines
line_cut text line rest cut = ap lines_of_parts cut ∙ first_of line (slice_split (λ b. eqb b 10) rest) (omega (arith, length-slice_split (λ b. eqb b 10) rest))

pub lines_none : (text : List ℕ) → length text ≡ 0 → lines text ≡ []
unfolding lines
lines_none [] e = refl
lines_none (b ∷ text) e = absurd (omega arith)

last_of : (part : List ℕ) → 0 < length part → lines_of_parts (part ∷ []) ≡ strip_last 13 part ∷ []
last_of [] lt = absurd (omega arith)
last_of (b ∷ part) lt = let e : eqb (suc (length part)) 0 ≡ false = grind (arith, nat_tests) in rw e refl

-- the last part is the whole text
pub line_last : (text line rest : List ℕ) → 0 < length text → slice_split (λ b. eqb b 10) text ≡ line ∷ [] → length rest ≡ 0 → lines text ≡ strip_last 13 line ∷ lines rest
unfolding lines
line_last text line rest lt cut none =
    let same : line ≡ text = sym (ap (join_with_byte 10) cut) ∙ join_with_byte-slice_split 10 text in
    let some : 0 < length line = rw same lt in
    ap lines_of_parts cut ∙ last_of line some ∙ (rw (lines_none rest none) refl)
