-- The view that an eye keeps.
use Rattle.std.specs.Prelude.{◌≡◌, List, length, Option, Some, None, MatchOption}
use mathlib.Core.List.{IsPrefix}
use Rattle.logbook.specs.Pages.{Book}
use Rattle.board_rules.specs.declared.call.Entry.{Entry}
use Rattle.board_rules.specs.History.{Opening, IsLegal, state_after}
use Rattle.published_board.specs.declared.eye.Kept.{Kept}
use Rattle.published_board.specs.Reached.{entries_of, opening_of, history_in}
use Rattle.published_board.specs.Shelves.{view_of}

-- an eye as contracts see it: the entries that it has seen, and the first ones of them of which its view tells, where it has a view
pub record EyeState : Type 0 where
  pub seen : List Entry
  pub viewed : Option (List Entry)

-- the entries of which a kept view tells
abbrev pub viewed_in : Option Kept → Option (List Entry)
viewed_in None = None
viewed_in (Some k) = Some (entries_of k.base.pages)

-- The view is that of the state after a legal beginning of what was seen, which has so many entries.
pub record IsKeptFor (o : Opening) (book : Book) (seen : List Entry) (k : Kept) : Type 0 where
  pub book_is : k.base.book ≡ book
  pub opening_is : opening_of k.base.pages ≡ o
  pub legal : IsLegal (history_in k.base.pages)
  pub begins : IsPrefix (entries_of k.base.pages) seen
  pub view_is : k.view ≡ view_of (state_after o.setting (entries_of k.base.pages))
  pub entries_is : k.entries ≡ length (entries_of k.base.pages)

abbrev pub AreKeptFor : Opening → Book → List Entry → Option Kept → Type 0
AreKeptFor o book seen kept = MatchOption kept (Unit {0}) (IsKeptFor o book seen)
