-- A listing has no float.
use Rattle.std.proofs.Common.{◌≡◌, ℕ, List, [], ◌∷◌, map, false, refl}
use Rattle.serde_json.specs.View.{items_of}
use Rattle.serde_json.specs.Written.{items_have_float, has_float}
use Rattle.board_rules.specs.Listing.{RowShown}
use Rattle.board_lines.specs.Json.{number_data, row_data}

numbers_have_none : (ns : List ℕ) → items_have_float (items_of (map number_data ns)) ≡ false
numbers_have_none [] = refl
numbers_have_none (n ∷ ns) = numbers_have_none ns

row_has_none : (row : RowShown) → has_float (row_data row) ≡ false
row_has_none row = numbers_have_none row.early

pub rows_have_none : (rows : List RowShown) → items_have_float (items_of (map row_data rows)) ≡ false
rows_have_none [] = refl
rows_have_none (row ∷ rows) = rw (row_has_none row) (rows_have_none rows)
