-- A listing as JSON.
use Rattle.std.specs.Prelude.{ℕ, List, [], ◌∷◌, ◌++◌, codes, map}
use Rattle.std.specs.List.{flat_map}
use Rattle.std.specs.Fmt.{decimal}
use Rattle.serde_json.specs.Data.{Data, number, unsigned, array, object, member, no_members}
use Rattle.serde_json.specs.View.{items_of}
use Rattle.serde_json.specs.Written.{compact_text}
use Rattle.board_rules.specs.Listing.{RowShown}

abbrev pub number_data : ℕ → Data
number_data n = number (unsigned n)

-- the numbers of a row: its vehicle, its place, its customer and its early values
abbrev pub cells : RowShown → List ℕ
cells row = (row.vehicle ∷ row.place ∷ row.customer ∷ []) ++ row.early

abbrev pub row_data : RowShown → Data
row_data row = array (items_of (map number_data (cells row)))

abbrev pub rows_data : List RowShown → Data
rows_data rows = array (items_of (map row_data rows))

-- one object with the one key rows, compact
abbrev pub json_text : List RowShown → List ℕ
json_text rows = compact_text (object (member (codes "rows") (rows_data rows) no_members))

-- ---- the same text in pieces

abbrev pub comma_number : ℕ → List ℕ
comma_number n = 44 ∷ decimal n

-- the numbers of a row, without its brackets
abbrev pub cells_text : RowShown → List ℕ
cells_text row = decimal row.vehicle ++ (comma_number row.place ++ (comma_number row.customer ++ flat_map comma_number row.early))

-- those of a row after another, with what stands between the two
abbrev pub next_cells : RowShown → List ℕ
next_cells row = codes "],[" ++ cells_text row

-- rows, separated by commas
abbrev pub rows_json : List RowShown → List ℕ
rows_json [] = []
rows_json (row ∷ rows) = 91 ∷ (cells_text row ++ (flat_map next_cells rows ++ 93 ∷ []))

abbrev pub in_pieces : List RowShown → List ℕ
in_pieces rows = codes "{\"rows\":[" ++ (rows_json rows ++ codes "]}")
