-- Lines that are cut off the front of a text.
use Rattle.std.proofs.Common.{◌≡◌, ◌≢◌, ℕ, ◌<◌, ◌≤◌, false, eqb, List, [], ◌∷◌, ◌++◌, length, refl, sym, ap, subst, ◌∙◌, append_assoc, append-nil, arith}
use Rattle.std.specs.Prelude.{All}
use Rattle.std.specs.List.{flat_map, slice_split, AllByRecursion}
use Rattle.std.proofs.lemmas.Bool.Decides.{nat_tests}
use Rattle.std.proofs.lemmas.List.{length-append}
use Rattle.std.proofs.lemmas.List.Elements.{All-tail}
use Rattle.std.proofs.lemmas.List.Splits.{slice_split_at, slice_split_none, length-slice_split}
use Rattle.board_lines.specs.Replies.{ended}
use Rattle.line_engine.specs.Running.{HasNoEnd, IsLine, last_line}
use Rattle.line_engine.specs.TextLines.{whole_lines, lines_of}

not_end : (b : ℕ) → b ≢ 10 → eqb b 10 ≡ false
not_end b ne = grind (arith, nat_tests)

plain : (line : List ℕ) → HasNoEnd line → All (λ b. eqb b 10 ≡ false) line
plain line h = λ k d lt. not_end _ (h k d lt)

first_of : (part : List ℕ) (parts : List (List ℕ)) → 0 < length parts → whole_lines (part ∷ parts) ≡ part ∷ whole_lines parts
first_of part [] lt = absurd (omega arith)
first_of part (next ∷ parts) lt = refl

-- lines with their ends, and what follows them
pub cut_lines : (lines : List (List ℕ)) (rest : List ℕ) → AllByRecursion IsLine lines → lines_of (flat_map ended lines ++ rest) ≡ lines ++ lines_of rest
cut_lines [] rest each = refl
cut_lines (line ∷ lines) rest each =
    let tail = flat_map ended lines ++ rest in
    let whole : (ended line ++ flat_map ended lines) ++ rest ≡ line ++ (10 ∷ tail) = append_assoc (ended line) (flat_map ended lines) rest ∙ append_assoc line (10 ∷ []) tail in
    let cut : slice_split (λ (b : ℕ). eqb b 10) ((ended line ++ flat_map ended lines) ++ rest) ≡ line ∷ slice_split (λ (b : ℕ). eqb b 10) tail = ap (slice_split (λ (b : ℕ). eqb b 10)) whole ∙ slice_split_at (λ b. eqb b 10) line 10 tail (plain line each.0.plain) refl in
    ap whole_lines cut ∙ first_of line (slice_split (λ (b : ℕ). eqb b 10) tail) (omega (arith, length-slice_split (λ (b : ℕ). eqb b 10) tail)) ∙ ap (λ (l : List (List ℕ)). line ∷ l) (cut_lines lines rest each.1)

-- lines with their ends alone
pub full_lines : (lines : List (List ℕ)) → AllByRecursion IsLine lines → lines_of (flat_map ended lines) ≡ lines
full_lines lines each = ap lines_of (sym (append-nil (flat_map ended lines))) ∙ cut_lines lines [] each ∙ append-nil lines

-- one line with its end
pub one_line : (line : List ℕ) → IsLine line → lines_of (ended line) ≡ line ∷ []
one_line line h = ap lines_of (sym (append-nil (ended line))) ∙ full_lines (line ∷ []) (h, tt)

-- what has no line end
pub open_line : (rest : List ℕ) → HasNoEnd rest → lines_of rest ≡ last_line rest
open_line rest h = ap whole_lines (slice_split_none (λ b. eqb b 10) rest (plain rest h))

-- it is at most one line
pub few_open : (rest : List ℕ) → HasNoEnd rest → length (lines_of rest) ≤ 1
few_open [] h = omega arith
few_open (b ∷ rest) h = omega (arith, ap (λ (ls : List (List ℕ)). length ls) (open_line (b ∷ rest) h))

pub each_then : (xs ys : List (List ℕ)) → AllByRecursion IsLine xs → AllByRecursion IsLine ys → AllByRecursion IsLine (xs ++ ys)
each_then [] ys p q = q
each_then (x ∷ xs) ys p q = (p.0, each_then xs ys p.1 q)

ends_so : (line : List ℕ) → HasNoEnd (line ++ 10 ∷ []) → ⊥
ends_so [] h = h 0 0 (omega arith) refl
ends_so (b ∷ line) h = ends_so line (All-tail (λ (x : ℕ). x ≢ 10) b (line ++ 10 ∷ []) h)

tail_of : List ℕ → List ℕ
tail_of [] = []
tail_of (b ∷ bytes) = bytes

none_left : (used rest : List ℕ) → length (used ++ rest) ≡ 0 → rest ≡ []
none_left used [] e = refl
none_left used (b ∷ rest) e = absurd (omega (arith, e, length-append used (b ∷ rest)))

-- what comes behind in a line with its end, and has no end, is nothing
pub nothing_behind : (used rest line : List ℕ) → used ++ rest ≡ ended line → HasNoEnd rest → rest ≡ []
unfolding tail_of
nothing_behind [] rest line e h = absurd (ends_so line (subst HasNoEnd e h))
nothing_behind (b ∷ used) rest [] e h = none_left used rest (ap (λ (l : List ℕ). length (tail_of l)) e)
nothing_behind (b ∷ used) rest (c ∷ line) e h = nothing_behind used rest line (ap tail_of e) h
