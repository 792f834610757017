-- What a worker does with a desk, and many workers with a desk each.
use Rattle.std.specs.Prelude.{◌≡◌, ◌==◌, ℕ, ◌+◌, List, [], ◌∷◌, ◌++◌, length, filter}
use mathlib.Core.List.{IsPrefix}
use Rattle.board_rules.specs.declared.call.Entry.{Entry}
use Rattle.board_rules.specs.History.{Opening}
use Rattle.board_lock.specs.Commits.{Legal}
use Rattle.board_lock.specs.Watches.{Watch}
use Rattle.search_workers.specs.declared.tally.Tally.{Tally}
use Rattle.search_workers.specs.Kinds.{Round, entries_of}
use Rattle.search_workers.specs.Counts.{AreCounted}
use Rattle.search_workers.specs.Jobs.{job_of}
use Rattle.search_workers.specs.Rounds.{Rounds}

-- the entries of a desk, in their order
abbrev pub of_desk : ℕ → List Entry → List Entry
of_desk desk entries = filter (λ e. e.desk == desk) entries

-- From what the desk had seen at first so many rounds were done, one after another, and a last question brought the desk up to the journal.
-- The entries that the desk gained are those of the rounds, in their order and no others. The tally counts the rounds.
pub record Worked (o : Opening) (session seed rounds : ℕ) (before after : Watch) (tally : Tally) : Type 0 where
  pub number_is : after.number ≡ before.number
  pub each : List Round
  pub many : length each ≡ rounds
  pub seen : List Entry
  pub run : Rounds (job_of o before.number session seed) [] each before.seen seen
  pub last : IsPrefix seen after.seen
  pub legal : Legal o after.seen
  pub added : List Entry
  pub added_is : after.seen ≡ before.seen ++ added
  pub entries : of_desk before.number added ≡ entries_of each
  pub own : after.own ≡ before.own + length (entries_of each)
  pub counted : AreCounted each tally
  pub sum : tally.tried + tally.idle ≡ rounds

-- each desk and tally is what came of the desk at its place, with the session and the seed at that place
abbrev pub AllWorked : Opening → ℕ → List ℕ → List ℕ → List Watch → List Watch → List Tally → Type 0
AllWorked o rounds [] [] [] [] [] = Unit {0}
AllWorked o rounds (session ∷ sessions) (seed ∷ seeds) (before ∷ befores) (after ∷ afters) (tally ∷ tallies) =
    Worked o session seed rounds before after tally × AllWorked o rounds sessions seeds befores afters tallies
AllWorked o rounds _ _ _ _ _ = ⊥
