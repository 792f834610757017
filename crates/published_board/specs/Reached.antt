-- A beginning of a hall's log, and what it tells: how the board was opened, and its journal.
use Rattle.std.specs.Prelude.{◌-◌, List, [], ◌∷◌, ◌++◌, length, take}
use Rattle.std.specs.List.{fold}
use Rattle.logbook.specs.Pages.{Book}
use Rattle.board_rules.specs.declared.call.Entry.{Entry}
use Rattle.board_rules.specs.History.{History, Opening}
use Rattle.published_board.specs.declared.page.Page.{Page}
use Rattle.published_board.specs.declared.page.Page.TheVariants.{Opened, Did, Undone}

-- the log of a book, as far as it was reached
pub record Reached : Type 0 where
  pub book : Book
  pub pages : List Page

-- the journal after one page more: an entry more, or one less where the last one was taken back
abbrev pub after_page : List Entry → Page → List Entry
after_page es (Opened h) = h.entries
after_page es (Did e) = es ++ e ∷ []
after_page es Undone = take (length es - 1) es

-- the journal after some pages
abbrev pub entries_of : List Page → List Entry
entries_of pages = fold after_page [] pages

abbrev pub no_opening : Opening
no_opening = record { setting = record { customers = 0; vehicles = 0; tables = []; dimensions = []; cost = 0; max_events = 0 }; desks = 0 }

-- the opening entry, of which the first page tells
abbrev pub opening_of : List Page → Opening
opening_of [] = no_opening
opening_of (Opened h ∷ pages) = h.opening
opening_of (Did e ∷ pages) = no_opening
opening_of (Undone ∷ pages) = no_opening

-- the history that they tell
abbrev pub history_in : List Page → History
history_in pages = record { opening = opening_of pages; entries = entries_of pages }
