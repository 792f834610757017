-- How rounds end.
use Rattle.std.specs.Prelude.{ℕ, Bool, true, false, List, [], ◌∷◌, count_by}
use Rattle.board_rules.specs.declared.call.Entry.{Entry}
use Rattle.search_workers.specs.declared.tally.Outcome.{Outcome}
use Rattle.search_workers.specs.declared.tally.Outcome.TheVariants as outcomes

-- A round is refused by a fault, is idle since no move counts, or leaves the entry of its proposal, which is denied or committed.
pub data Round : Type 0 where
  Refused : Round
  Idle : Round
  Denied : Entry → Round
  Committed : Entry → Round

-- the entries that the rounds left, in their order
abbrev pub entries_of : List Round → List Entry
entries_of [] = []
entries_of (Refused ∷ rounds) = entries_of rounds
entries_of (Idle ∷ rounds) = entries_of rounds
entries_of (Denied e ∷ rounds) = e ∷ entries_of rounds
entries_of (Committed e ∷ rounds) = e ∷ entries_of rounds

-- how a round is counted
abbrev pub outcome_of : Round → Outcome
outcome_of Refused = outcomes.Refused
outcome_of Idle = outcomes.Idle
outcome_of (Denied e) = outcomes.Denied
outcome_of (Committed e) = outcomes.Committed

abbrev pub is_committed : Outcome → Bool
is_committed outcomes.Committed = true
is_committed _ = false

abbrev pub is_denied : Outcome → Bool
is_denied outcomes.Denied = true
is_denied _ = false

abbrev pub is_refused : Outcome → Bool
is_refused outcomes.Refused = true
is_refused _ = false

abbrev pub is_idle : Outcome → Bool
is_idle outcomes.Idle = true
is_idle _ = false

-- how many rounds ended so
abbrev pub ended : (Outcome → Bool) → List Round → ℕ
ended p rounds = count_by (λ r. p (outcome_of r)) rounds
