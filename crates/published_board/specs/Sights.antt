-- The rule of the published list.
use Rattle.std.specs.Prelude.{◌≡◌, ℕ, List, [], Option, Some, None, MatchOption}
use mathlib.Core.Option.{some}
use mathlib.Core.List.{IsPrefix}
use lib.ListN.{get_elem?}
use Rattle.logbook.specs.Pages.{Book}
use Rattle.board_rules.specs.declared.call.Entry.{Entry}
use Rattle.board_rules.specs.History.{Opening, IsLegal}
use Rattle.published_board.specs.declared.shown.Picture.{Picture}
use Rattle.published_board.specs.Reached.{Reached, entries_of, opening_of, history_in}
use Rattle.published_board.specs.Shelves.{Shows}

-- the entries are legal, and what is shown is the state after them
pub record IsPicture (p : Picture) : Type 0 where
  pub legal : IsLegal (history_in p.base.pages)
  pub shows : Shows (opening_of p.base.pages).setting (entries_of p.base.pages) p.cells

-- one beginning of a log goes on in another one of the same board
pub record GoesOn (r q : Reached) : Type 0 where
  pub book : q.book ≡ r.book
  pub opening : opening_of q.pages ≡ opening_of r.pages
  pub entries : IsPrefix (entries_of r.pages) (entries_of q.pages)

-- what is published is a picture, and each seat has seen a beginning of it
pub record Keeps (p : Picture) (views : List (Option Reached)) : Type 0 where
  pub picture : IsPicture p
  pub seen : (seat : ℕ) (r : Reached) → get_elem? views seat ≡ some (Some r) → GoesOn r p.base

-- what is seen afterwards is what is published, which goes on from what was seen
pub record Sees (v : Option Reached) (p : Picture) (w : Option Reached) : Type 0 where
  pub grows : (r : Reached) → v ≡ Some r → GoesOn r p.base
  pub now : w ≡ Some p.base
  pub picture : IsPicture p

-- something was seen, of this board and this log
abbrev pub IsOf : Opening → Book → Option Reached → Type 0
IsOf opening book v = MatchOption v ⊥ (λ r. (opening_of r.pages ≡ opening) × (r.book ≡ book) × IsLegal (history_in r.pages))

-- the entries that were seen
abbrev pub entries_in : Option Reached → List Entry
entries_in None = []
entries_in (Some r) = entries_of r.pages
