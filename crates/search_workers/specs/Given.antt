-- Laws of histories and moves, as the crates below state them.
use Rattle.std.specs.Prelude.{◌≡◌, ℕ, ◌≤◌, List, [], ◌∷◌, ◌++◌, length}
use mathlib.Core.List.{IsPrefix}
use Rattle.dimension_core.specs.Setting.{Setting}
use Rattle.plan_core.specs.Plan.{route_at}
use Rattle.plan_core.specs.Commits.{IsCurrentAt}
use Rattle.move_core.specs.declared.moves.Move.{Move}
use Rattle.move_core.specs.Laws.{MovesSaveTheSame}
use Rattle.board_rules.specs.declared.call.Call.TheVariants.{Propose}
use Rattle.board_rules.specs.declared.call.Entry.{Entry}
use Rattle.board_rules.specs.declared.reply.Reply.TheVariants.{Committed}
use Rattle.board_rules.specs.Step.{IsReply, after}
use Rattle.board_rules.specs.History.{Opening, History, IsLegal, state_after}
use Rattle.board_rules.specs.Good.{state_of, state_at}
use Rattle.board_rules.specs.Proposals.{MayCommit}
use Rattle.board_lock.specs.Commits.{Legal}
use Rattle.published_board.specs.Shelves.{view_of}

pub record Laws : Type 0 where
  -- versions do not fall, and a commit at the end has the version as its number
  pub rises : (s : Setting) (before later : List Entry) → IsPrefix before later → (view_of (state_after s before)).version ≤ (view_of (state_after s later)).version
  pub last : (o : Opening) (es : List Entry) (e : Entry) (n : ℕ) → Legal o (es ++ e ∷ []) → e.reply ≡ Committed n → (view_of (state_after o.setting (es ++ e ∷ []))).version ≡ n
  -- a history grows by its entries, and its beginnings are legal
  pub grows : (s : Setting) (es : List Entry) (e : Entry) → state_after s (es ++ e ∷ []) ≡ after (state_after s es) e.call e.reply
  pub begins : (o : Opening) (es more : List Entry) → Legal o (es ++ more) → Legal o es
  -- what is committed may be
  pub may : (h : History) (session base n : ℕ) (mv : Move) → IsLegal h → IsReply h.opening.setting (state_of h) (Propose session base mv) (Committed n) → MayCommit h.opening.setting (state_of h) session base mv
  -- a vehicle that is current at a base has the route that it had then
  pub current : (h : History) (k base v : ℕ) → IsLegal h → k ≤ length h.entries → length (state_at h k).commits ≡ base → 1 ≤ v
      → IsCurrentAt (state_of h).commits base v → route_at (state_at h k).routes v ≡ route_at (state_of h).routes v
  -- a move saves the same where its vehicles have the same routes
  pub same : MovesSaveTheSame
