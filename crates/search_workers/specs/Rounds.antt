-- What a worker does in a round, and in all its rounds.
use Rattle.std.specs.Prelude.{◌≡◌, ℕ, ◌+◌, List, [], ◌∷◌, ◌++◌, length}
use mathlib.Core.List.{IsPrefix}
use Rattle.move_core.specs.declared.moves.Move.{Move}
use Rattle.neighbourhood.specs.Best.{IsBest, IsIdle}
use Rattle.board_rules.specs.declared.call.Call.TheVariants.{Propose}
use Rattle.board_rules.specs.declared.call.Entry.{Entry}
use Rattle.board_rules.specs.declared.reply.Denial.{Denial}
use Rattle.board_rules.specs.declared.reply.Reply.TheVariants as replies
use Rattle.search_workers.specs.Kinds.{Round, Refused, Idle, Denied, Committed, entries_of}
use Rattle.search_workers.specs.Skips.{skip_at}
use Rattle.search_workers.specs.Jobs.{Job, view_after, cost_at, first_vehicle, second_vehicle}

-- the number of the round after those that are done
abbrev pub number_after : List Round → ℕ
number_after done = length done + 1

-- the moves that it skips in the state after these entries: those that the rounds before it were denied at the version of that state,
-- other than as stale
abbrev pub skip_in : Job → List Round → List Entry → List Move
skip_in job done seen = skip_at (view_after job.opening seen).version (entries_of done)

-- in the state after these entries no move counts near the two vehicles that it draws
abbrev pub NoneCounts : Job → List Round → List Entry → Type 0
NoneCounts job done seen =
    IsIdle job.opening.setting (view_after job.opening seen) (skip_in job done seen) (first_vehicle job (number_after done)) (second_vehicle job (number_after done))

-- in the state after these entries the move is the best one near them, and saves the gain
abbrev pub IsBestIn : Job → List Round → List Entry → Move → ℕ → Type 0
IsBestIn job done seen mv gain =
    IsBest job.opening.setting (view_after job.opening seen) (skip_in job done seen) (first_vehicle job (number_after done)) (second_vehicle job (number_after done)) mv gain

-- A fault ended the round. The desk may have seen more entries.
pub record IsRefusedRound (before after : List Entry) : Type 0 where
  pub grows : IsPrefix before after

-- No move counted in the state after all that the desk had seen when the round ended.
pub record IsIdleRound (job : Job) (done : List Round) (before after : List Entry) : Type 0 where
  pub grows : IsPrefix before after
  pub none : NoneCounts job done after

-- The round proposed the best move in the state after all that the desk had seen, with the version of that state as its base. Entries of
-- others may have come between before the one that this proposal left.
pub record IsProposal (job : Job) (done : List Round) (before after : List Entry) (e : Entry) : Type 0 where
  pub seen : List Entry
  pub grows : IsPrefix before seen
  pub between : List Entry
  pub after_is : after ≡ (seen ++ between) ++ e ∷ []
  pub mv : Move
  pub gain : ℕ
  pub best : IsBestIn job done seen mv gain
  pub desk_is : e.desk ≡ job.desk
  pub call_is : e.call ≡ Propose job.session (view_after job.opening seen).version mv

-- It was denied.
pub record IsDeniedRound (job : Job) (done : List Round) (before after : List Entry) (e : Entry) : Type 0 where
  pub proposal : IsProposal job done before after e
  pub denial : Denial
  pub reply_is : e.reply ≡ replies.Denied denial

-- It was committed, as the version that the plan then had, and the cost fell at the entry's own place by what the best move saves.
pub record IsCommittedRound (job : Job) (done : List Round) (before after : List Entry) (e : Entry) : Type 0 where
  pub proposal : IsProposal job done before after e
  pub reply_is : e.reply ≡ replies.Committed (view_after job.opening after).version
  pub lowers : cost_at job.opening after + proposal.gain ≡ cost_at job.opening (proposal.seen ++ proposal.between)

-- the round after those that are done, from what the desk had seen before it to what it had seen after it
abbrev pub IsRound : Job → List Round → List Entry → List Entry → Round → Type 0
IsRound job done before after Refused = IsRefusedRound before after
IsRound job done before after Idle = IsIdleRound job done before after
IsRound job done before after (Denied e) = IsDeniedRound job done before after e
IsRound job done before after (Committed e) = IsCommittedRound job done before after e

-- the rounds one after another, after those that are done
abbrev pub Rounds : Job → List Round → List Round → List Entry → List Entry → Type 0
Rounds job done [] before after = before ≡ after
Rounds job done (round ∷ rounds) before after =
    (mid : List Entry) × IsRound job done before mid round × Rounds job (done ++ round ∷ []) rounds mid after
