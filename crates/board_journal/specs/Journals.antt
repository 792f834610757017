-- What a journal keeps of its pages.
use Rattle.std.specs.Prelude.{◌≡◌, ℕ, ◌+◌, ◌≤◌, List, [], length, map, Option, Some, None, All}
use Rattle.std.specs.List.{flat_map}
use Rattle.std.specs.declared.sync.Arc.{Arc}
use Rattle.std.specs.Borrow.{Bor}
use Rattle.board_rules.specs.declared.call.Entry.{Entry}
use Rattle.board_journal.specs.Shown.{Shown}

-- shared pages, as contracts see each of them
abbrev pub pages_of : {Z : Type 0} → List (Arc Shown Z) → List Shown
pages_of pages = map (λ page. page.value) pages

-- the entries of full pages, one page after the other
abbrev pub paged : {Z : Type 0} → List (Arc Shown Z) → List Entry
paged pages = flat_map (λ page. page.value.entries) pages

-- those of a last page, where it is still to come
abbrev pub last_entries : Option (Bor Shown) → List Entry
last_entries None = []
last_entries (Some page) = page.now.entries

abbrev pub last_pages : Option (Bor Shown) → ℕ
last_pages None = 0
last_pages (Some page) = 1

abbrev pub IsFull : {Z : Type 0} → Arc Shown Z → Type 0
IsFull page = length page.value.entries ≡ 4096

-- Each full page has 4,096 entries, and there are at most 1,048,576. What the last page lacks of as many is its room.
pub record IsJournal {Z : Type 0} (pages : List (Arc Shown Z)) (page : Shown) : Type 0 where
  pub full : All IsFull pages
  pub few : length pages ≤ 1048576
  pub last : length page.entries + page.room ≡ 4096
