-- The texts of listings, of the journal, of reviews and of checks.
use Rattle.std.specs.Prelude.{ℕ, List, ◌++◌, Bool, true, false, codes}
use Rattle.std.specs.List.{flat_map, enumerate_from}
use Rattle.board_rules.specs.Listing.{RowShown}
use Rattle.board_rules.specs.declared.call.Entry.{Entry}
use Rattle.board_lines.specs.Saying.{event_text}
use Rattle.board_lines.specs.Replies.{ended, spaced, reply_text}

-- the line that ends each listing
abbrev pub end_line : List ℕ
end_line = codes "end\n"

-- ---- rows

-- the vehicle, the place and the customer of a row, then its early values
abbrev pub row_text : RowShown → List ℕ
row_text row = codes "row" ++ (spaced row.vehicle ++ (spaced row.place ++ (spaced row.customer ++ flat_map spaced row.early)))

abbrev pub row_line : RowShown → List ℕ
row_line row = ended (row_text row)

-- a line for each row, then the line that ends the listing
abbrev pub list_text : List RowShown → List ℕ
list_text rows = flat_map row_line rows ++ end_line

-- ---- the journal

-- the number of an entry, its desk and its turn
abbrev pub tag_of : ℕ → ℕ → ℕ → List ℕ
tag_of n desk turn = codes "event" ++ (spaced n ++ (spaced desk ++ spaced turn))

abbrev pub tag_text : ℕ → Entry → List ℕ
tag_text n entry = tag_of n entry.desk entry.turn

-- the call of an entry and its reply, each after a bar
abbrev pub answer_text : Entry → List ℕ
answer_text entry = codes " | " ++ (event_text entry.call ++ (codes " | " ++ reply_text entry.reply))

abbrev pub entry_text : ℕ → Entry → List ℕ
entry_text n entry = tag_text n entry ++ answer_text entry

unfoldable pub entry_line : ℕ → Entry → List ℕ
entry_line n entry = ended (entry_text n entry)

-- a line for each entry from the first on, then the line that ends the listing
abbrev pub audit_text : List Entry → List ℕ
audit_text entries = flat_map (λ e. entry_line e.0 e.1) (enumerate_from 1 entries) ++ end_line

-- ---- reviews and checks

abbrev pub name_line : List ℕ → List ℕ
name_line name = ended (codes "name " ++ name)

-- a line for each name, then the line that ends the listing
abbrev pub review_text : List (List ℕ) → List ℕ
review_text names = flat_map name_line names ++ end_line

abbrev pub check_text : Bool → List ℕ
check_text true = codes "yes"
check_text false = codes "no"
