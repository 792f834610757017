-- What the parts of a round do.
use Rattle.std.specs.Prelude.{◌≡◌, ℕ, ◌+◌, ◌<◌, List, [], ◌∷◌, ◌++◌, length, Option, MatchOption}
use Rattle.dimension_core.specs.Setting.{Setting}
use Rattle.pin_core.specs.View.{ViewState}
use Rattle.move_core.specs.declared.moves.Move.{Move}
use Rattle.neighbourhood.specs.Best.{IsBest, IsIdle}
use Rattle.board_rules.specs.declared.reply.Reply.{Reply}
use Rattle.board_rules.specs.declared.reply.Reply.TheVariants as replies
use Rattle.board_lock.specs.Watches.{Watch}
use Rattle.search_workers.specs.declared.finder.Found.{Found}
use Rattle.search_workers.specs.declared.tally.Outcome.{Outcome}
use Rattle.search_workers.specs.declared.tally.Outcome.TheVariants as outcomes
use Rattle.search_workers.specs.declared.tally.Tally.{Tally}
use Rattle.search_workers.specs.Kinds.{Round, entries_of, outcome_of}
use Rattle.search_workers.specs.Counts.{AreCounted}
use Rattle.search_workers.specs.Skips.{skip_at}
use Rattle.search_workers.specs.Jobs.{Job}
use Rattle.search_workers.specs.Rounds.{IsRound, Rounds}

-- how a proposal ended, by its reply
abbrev pub outcome_by : Reply → Outcome
outcome_by (replies.Committed version) = outcomes.Committed
outcome_by (replies.Denied denial) = outcomes.Denied
outcome_by _ = outcomes.Refused

-- the best move in a view, with the view's version, or that none counts
abbrev pub IsFound : Setting → ViewState → List Move → ℕ → ℕ → Option Found → Type 0
IsFound s view skip v w found = MatchOption found (IsIdle s view skip v w) (λ f. IsBest s view skip v w f.mv f.gain × (f.version ≡ view.version))

-- The moves are those that the rounds were denied at this version, other than as stale; they proposed none at a later one.
pub record AreSkipped (done : List Round) (version : ℕ) (moves : List Move) : Type 0 where
  pub moves_are : moves ≡ skip_at version (entries_of done)
  pub later : (n : ℕ) → version < n → skip_at n (entries_of done) ≡ []

-- one more round was done, which ended so, and these moves are now skipped
pub record IsDone (job : Job) (done : List Round) (before after : Watch) (version : ℕ) (moves : List Move) (outcome : Outcome) : Type 0 where
  pub round : Round
  pub is : IsRound job done before.seen after.seen round
  pub outcome_is : outcome_of round ≡ outcome
  pub number_is : after.number ≡ before.number
  pub own : after.own ≡ before.own + length (entries_of (round ∷ []))
  pub skipped : AreSkipped (done ++ round ∷ []) version moves

-- so many rounds were done from the start on
pub record AreDone (job : Job) (start now : Watch) (n version : ℕ) (moves : List Move) (tally : Tally) : Type 0 where
  pub number_is : now.number ≡ start.number
  pub each : List Round
  pub many : length each ≡ n
  pub run : Rounds job [] each start.seen now.seen
  pub own : now.own ≡ start.own + length (entries_of each)
  pub skipped : AreSkipped each version moves
  pub counted : AreCounted each tally
