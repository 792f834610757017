-- A listing as JSON is the text of its rows, in brackets and separated by commas.
use Rattle.std.proofs.Common.{◌≡◌, ℕ, List, [], ◌∷◌, ◌++◌, ◌≤◌, ◌+◌, length, get_or, take, drop, map, true, false, codes, refl, sym, ap, ◌∙◌, arith}
use Rattle.std.specs.List.{flat_map}
use Rattle.std.specs.Fmt.{decimal}
use Rattle.std.proofs.lemmas.List.{append_assoc, take_all, length-drop}
use Rattle.serde_json.specs.View.{items_of}
use Rattle.serde_json.specs.Written.{items_text, compact_text}
use Rattle.serde_json.specs.Data.{string}
use Rattle.serde_json.proofs.OnLiterals.{serde_json_on_literals}
use Rattle.board_rules.specs.Listing.{RowShown}
use Rattle.board_lines.specs.Json.{number_data, row_data, json_text, comma_number, cells_text, next_cells, rows_json, in_pieces}

numbers_text : (ns : List ℕ) → items_text true (items_of (map number_data ns)) ≡ flat_map comma_number ns ++ 93 ∷ []
numbers_text [] = refl
numbers_text (n ∷ ns) = ap (λ (l : List ℕ). 44 ∷ (decimal n ++ l)) (numbers_text ns) ∙ sym (append_assoc (comma_number n) (flat_map comma_number ns) (93 ∷ []))

-- a row with its brackets, and one after another row
abbrev row_json : RowShown → List ℕ
row_json row = 91 ∷ (cells_text row ++ 93 ∷ [])

abbrev comma_row : RowShown → List ℕ
comma_row row = 44 ∷ row_json row

row_is : (row : RowShown) → compact_text (row_data row) ≡ row_json row
row_is row =
    let early = flat_map comma_number row.early in
    let customer = comma_number row.customer in
    let place = comma_number row.place in
    ap (λ (l : List ℕ). 91 ∷ (decimal row.vehicle ++ (place ++ (customer ++ l)))) (numbers_text row.early)
    ∙ ap (λ (l : List ℕ). 91 ∷ (decimal row.vehicle ++ (place ++ l))) (sym (append_assoc customer early (93 ∷ [])))
    ∙ ap (λ (l : List ℕ). 91 ∷ (decimal row.vehicle ++ l)) (sym (append_assoc place (customer ++ early) (93 ∷ [])))
    ∙ ap (λ (l : List ℕ). 91 ∷ l) (sym (append_assoc (decimal row.vehicle) (place ++ (customer ++ early)) (93 ∷ [])))

more_text : (rows : List RowShown) → items_text true (items_of (map row_data rows)) ≡ flat_map comma_row rows ++ 93 ∷ []
more_text [] = refl
more_text (row ∷ rows) =
    ap (λ (l : List ℕ). 44 ∷ (compact_text (row_data row) ++ l)) (more_text rows)
    ∙ ap (λ (l : List ℕ). 44 ∷ (l ++ (flat_map comma_row rows ++ 93 ∷ []))) (row_is row)
    ∙ sym (append_assoc (comma_row row) (flat_map comma_row rows) (93 ∷ []))

-- what closes a row may be counted to it or to the next one
between : (rows : List RowShown) → flat_map next_cells rows ++ 93 ∷ [] ≡ 93 ∷ flat_map comma_row rows
between [] = refl
between (row ∷ rows) =
    append_assoc (next_cells row) (flat_map next_cells rows) (93 ∷ [])
    ∙ ap (λ (l : List ℕ). next_cells row ++ l) (between rows)
    ∙ ap (λ (l : List ℕ). 93 ∷ 44 ∷ 91 ∷ l) (sym (append_assoc (cells_text row) (93 ∷ []) (flat_map comma_row rows)))

rows_text : (rows : List RowShown) → items_text false (items_of (map row_data rows)) ≡ rows_json rows ++ 93 ∷ []
rows_text [] = refl
rows_text (row ∷ rows) =
    ap (λ (l : List ℕ). compact_text (row_data row) ++ l) (more_text rows)
    ∙ ap (λ (l : List ℕ). l ++ (flat_map comma_row rows ++ 93 ∷ [])) (row_is row)
    ∙ sym (append_assoc (row_json row) (flat_map comma_row rows) (93 ∷ []))
    ∙ ap (λ (l : List ℕ). 91 ∷ (l ++ 93 ∷ [])) (append_assoc (cells_text row) (93 ∷ []) (flat_map comma_row rows))
    ∙ ap (λ (l : List ℕ). 91 ∷ ((cells_text row ++ l) ++ 93 ∷ [])) (sym (between rows))

key_text : compact_text (string (codes "rows")) ≡ codes "\"rows\""
unfolding serde_json_on_literals
key_text = refl

pub json_is : (rows : List RowShown) → json_text rows ≡ in_pieces rows
json_is rows =
    ap (λ (k : List ℕ). 123 ∷ (k ++ 58 ∷ ((91 ∷ items_text false (items_of (map row_data rows))) ++ 125 ∷ []))) key_text
    ∙ ap (λ (l : List ℕ). codes "{\"rows\":[" ++ (l ++ 125 ∷ [])) (rows_text rows)
    ∙ ap (λ (l : List ℕ). codes "{\"rows\":[" ++ l) (append_assoc (rows_json rows) (93 ∷ []) (125 ∷ []))

rows_split : (rows : List RowShown) (d first : RowShown) → 1 ≤ length rows → first ≡ get_or rows 0 d
    → rows_json rows ≡ 91 ∷ (cells_text first ++ (flat_map next_cells (drop 1 rows) ++ 93 ∷ []))
rows_split [] d first le is = absurd (omega (arith, le))
rows_split (row ∷ rows) d first le is = ap (λ (r : RowShown). 91 ∷ (cells_text r ++ (flat_map next_cells rows ++ 93 ∷ []))) (sym is)

-- the first row, and then all others
pub rows_taken : (rows : List RowShown) (m : ℕ) (d first : RowShown) → 1 ≤ length rows → length rows ≤ m + 1 → first ≡ get_or rows 0 d
    → rows_json rows ≡ (91 ∷ []) ++ (cells_text first ++ (flat_map next_cells (take m (drop 1 rows)) ++ 93 ∷ []))
rows_taken rows m d first le few is =
    rows_split rows d first le is
    ∙ ap (λ (l : List RowShown). 91 ∷ (cells_text first ++ (flat_map next_cells l ++ 93 ∷ []))) (sym (take_all m (drop 1 rows) (omega (arith, few, length-drop 1 rows))))
