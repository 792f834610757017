-- A text is cut into its lines.
use Rattle.std.proofs.Common.{◌≡◌, ◌≢◌, ℕ, ◌<◌, false, eqb, List, [], ◌∷◌, ◌++◌, length, refl, sym, ap, ◌∙◌, append_assoc, append-nil, arith}
use Rattle.std.specs.Prelude.{All}
use Rattle.std.specs.List.{flat_map, slice_split, AllByRecursion}
use Rattle.std.proofs.lemmas.Bool.Decides.{nat_tests}
use Rattle.std.proofs.lemmas.List.Splits.{slice_split_at, slice_split_none, length-slice_split}
use Rattle.board_lines.specs.Replies.{ended}
use Rattle.line_engine.specs.Running.{HasNoEnd, IsLine, last_line}
use Rattle.line_engine.specs.TextLines.{whole_lines, lines_of}

not_end : (b : ℕ) → b ≢ 10 → eqb b 10 ≡ false
not_end b ne = grind (arith, nat_tests)

plain : (line : List ℕ) → HasNoEnd line → All (λ b. eqb b 10 ≡ false) line
plain line h = λ k d lt. not_end _ (h k d lt)

first_of : (part : List ℕ) (parts : List (List ℕ)) → 0 < length parts → whole_lines (part ∷ parts) ≡ part ∷ whole_lines parts
first_of part [] lt = absurd (omega arith)
first_of part (next ∷ parts) lt = refl

-- lines with their ends, and what follows the last one
pub cut_lines : (lines : List (List ℕ)) (rest : List ℕ) → AllByRecursion IsLine lines → HasNoEnd rest → lines_of (flat_map ended lines ++ rest) ≡ lines ++ last_line rest
cut_lines [] rest each open_end = ap whole_lines (slice_split_none (λ b. eqb b 10) rest (plain rest open_end))
cut_lines (line ∷ lines) rest each open_end =
    let tail = flat_map ended lines ++ rest in
    let whole : (ended line ++ flat_map ended lines) ++ rest ≡ line ++ (10 ∷ tail) = append_assoc (ended line) (flat_map ended lines) rest ∙ append_assoc line (10 ∷ []) tail in
    let cut : slice_split (λ (b : ℕ). eqb b 10) ((ended line ++ flat_map ended lines) ++ rest) ≡ line ∷ slice_split (λ (b : ℕ). eqb b 10) tail = ap (slice_split (λ (b : ℕ). eqb b 10)) whole ∙ slice_split_at (λ b. eqb b 10) line 10 tail (plain line each.0.plain) refl in
    ap whole_lines cut ∙ first_of line (slice_split (λ (b : ℕ). eqb b 10) tail) (omega (arith, length-slice_split (λ (b : ℕ). eqb b 10) tail)) ∙ ap (λ (l : List (List ℕ)). line ∷ l) (cut_lines lines rest each.1 open_end)

no_end_nil : HasNoEnd []
no_end_nil = λ k d lt. absurd (omega arith)

-- lines with their ends alone
pub full_lines : (lines : List (List ℕ)) → AllByRecursion IsLine lines → lines_of (flat_map ended lines) ≡ lines
full_lines lines each = ap lines_of (sym (append-nil (flat_map ended lines))) ∙ cut_lines lines [] each no_end_nil ∙ append-nil lines
