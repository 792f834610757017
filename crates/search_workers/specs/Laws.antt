-- Laws of rounds.
use Rattle.std.specs.Prelude.{◌≡◌, ℕ, false, List, [], ◌∷◌, ◌++◌, Contains}
use mathlib.Core.List.{IsPrefix}
use Rattle.move_core.specs.declared.moves.Move.{Move}
use Rattle.board_rules.specs.declared.call.Call.TheVariants.{Propose}
use Rattle.board_rules.specs.declared.call.Entry.{Entry}
use Rattle.board_rules.specs.declared.reply.Denial.{Denial}
use Rattle.board_rules.specs.declared.reply.Reply.TheVariants.{Denied}
use Rattle.search_workers.specs.Kinds.{Round, entries_of}
use Rattle.search_workers.specs.Skips.{is_stale, skip_at}
use Rattle.search_workers.specs.Jobs.{Job}
use Rattle.search_workers.specs.Rounds.{IsRound, Rounds}

-- the round after those that are done went from one prefix of the last list to another, both of which extend the first list
pub record IsWithin (job : Job) (done : List Round) (first last : List Entry) (round : Round) : Type 0 where
  pub before : List Entry
  pub after : List Entry
  pub from : IsPrefix first before
  pub is : IsRound job done before after round
  pub on : IsPrefix after last

-- and so did each of the rounds that followed
abbrev pub AllWithin : Job → List Round → List Entry → List Entry → List Round → Type 0
AllWithin job done first last [] = Unit {0}
AllWithin job done first last (round ∷ rounds) = IsWithin job done first last round × AllWithin job (done ++ round ∷ []) first last rounds

abbrev pub RoundsAreWithin : Type 0
RoundsAreWithin = (job : Job) (each : List Round) (first seen last : List Entry) → Rounds job [] each first seen → IsPrefix seen last
    → AllWithin job [] first last each

-- the entry proposed the move at that version for the worker's session, and was denied, other than as stale
pub record IsDenial (job : Job) (version : ℕ) (mv : Move) (e : Entry) : Type 0 where
  pub desk_is : e.desk ≡ job.desk
  pub call_is : e.call ≡ Propose job.session version mv
  pub denial : Denial
  pub reply_is : e.reply ≡ Denied denial
  pub fresh : is_stale denial ≡ false

-- each move that is skipped at a version after some rounds was so denied in one of them
abbrev pub SkipsWereDenied : Type 0
SkipsWereDenied = (job : Job) (each : List Round) (first seen : List Entry) (version : ℕ) (mv : Move) → Rounds job [] each first seen
    → Contains (skip_at version (entries_of each)) mv → (e : Entry) × Contains (entries_of each) e × IsDenial job version mv e
