-- A desk, as contracts see it.
use Rattle.std.specs.Prelude.{ℕ, zero, suc, ◌+◌, List, [], ◌∷◌, ◌++◌, Option, None}
use Rattle.board_rules.specs.declared.call.Entry.{Entry}
use Rattle.board_rules.specs.History.{turns_of}

-- its number, how many turns it has had, the entries that it has seen, and those of which the view that it keeps tells
pub record Watch : Type 0 where
  pub number : ℕ
  pub own : ℕ
  pub seen : List Entry
  pub viewed : Option (List Entry)

-- a desk of a board, with its turns there, with its journal seen and without a view
abbrev pub watch_at : List Entry → ℕ → Watch
watch_at entries number = record { number = number; own = turns_of number entries; seen = entries; viewed = None }

-- the first desks of a board, each with its turns there, with its journal seen and without a view
abbrev pub watches : List Entry → ℕ → List Watch
watches entries zero = []
watches entries (suc n) = watches entries n ++ watch_at entries (n + 1) ∷ []
