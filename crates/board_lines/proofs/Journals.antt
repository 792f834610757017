-- The entries of a journal, with their numbers.
use Rattle.std.proofs.Common.{◌≡◌, ℕ, ◌+◌, List, [], ◌∷◌, ◌++◌, Result, Ok, Err, sym, ap, refl, ◌∙◌}
use Rattle.std.specs.Prelude.{OnOk}
use Rattle.std.specs.List.{flat_map, enumerate_from}
use Rattle.std.proofs.lemmas.List.{append-nil, append_assoc, append_cancel_left}
use Rattle.board_rules.specs.declared.call.Entry.{Entry}
use Rattle.board_lines.specs.Replies.{AppendsPrefix}
use Rattle.board_lines.specs.Listings.{end_line, entry_line}
use Rattle.board_lines.proofs.Starting.{cut_more, cut_then}

abbrev pub lines_from : ℕ → List Entry → List ℕ
lines_from n es = flat_map (λ e. entry_line e.0 e.1) (enumerate_from n es)

-- one entry more, of those that are left
pub one_line_more : (old now new : List ℕ) (all left rest : List Entry) (n : ℕ) (e : Entry) → left ≡ e ∷ rest → now ++ lines_from (n + 1) left ≡ old ++ lines_from 1 all
    → new ≡ now ++ entry_line (n + 1) e → new ++ lines_from (n + 1 + 1) rest ≡ old ++ lines_from 1 all
one_line_more old now new all left rest n e split kept grown =
    ap (λ (l : List ℕ). l ++ lines_from (n + 1 + 1) rest) grown
    ∙ append_assoc now (entry_line (n + 1) e) (lines_from (n + 1 + 1) rest)
    ∙ ap (λ (es : List Entry). now ++ lines_from (n + 1) es) (sym split)
    ∙ kept

-- and none
pub no_line_more : (old now : List ℕ) (all left : List Entry) (n : ℕ) → left ≡ [] → now ++ lines_from (n + 1) left ≡ old ++ lines_from 1 all → now ≡ old ++ lines_from 1 all
no_line_more old now all left n none kept =
    sym (append-nil now) ∙ ap (λ (es : List Entry). now ++ lines_from (n + 1) es) (sym none) ∙ kept

-- memory ran out in one of the lines
pub entry_cut : (old mid new more : List ℕ) (all left rest : List Entry) (n : ℕ) (e : Entry) → left ≡ e ∷ rest → mid ++ lines_from (n + 1) left ≡ old ++ lines_from 1 all
    → mid ≡ old ++ more → AppendsPrefix mid (entry_line (n + 1) e) new → AppendsPrefix old (lines_from 1 all ++ end_line) new
entry_cut old mid new more all left rest n e split text grew s =
    let line = entry_line (n + 1) e in
    let after = lines_from (n + 1 + 1) rest in
    let same : old ++ lines_from 1 all ≡ old ++ (more ++ (line ++ after)) =
    sym text
    ∙ ap (λ (l : List ℕ). l ++ lines_from (n + 1) left) grew
    ∙ append_assoc old more (lines_from (n + 1) left)
    ∙ ap (λ (es : List Entry). old ++ (more ++ lines_from (n + 1) es)) split in
    let whole = append_cancel_left old (lines_from 1 all) (more ++ (line ++ after)) same in
    cut_more old (lines_from 1 all) end_line (lines_from 1 all ++ end_line) new (cut_then old mid new more (line ++ after) (lines_from 1 all) grew (cut_more mid line after (line ++ after) new s refl) whole) refl

-- a tag and what comes behind it
pub tag_then : {T E : Type 0} (r : Result T E) (old mid new tag behind : List ℕ) → mid ≡ old ++ tag → OnOk r (new ≡ mid ++ behind) → OnOk r (new ≡ old ++ (tag ++ behind))
tag_then (Ok x) old mid new tag behind e h = h ∙ ap (λ (l : List ℕ). l ++ behind) e ∙ append_assoc old tag behind
tag_then (Err x) old mid new tag behind e h = tt
