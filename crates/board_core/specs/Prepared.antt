-- A judged event that is not yet in place.
use Rattle.std.specs.Prelude.{◌≡◌, ◌<◌, ◌≤◌, length}
use Rattle.dimension_core.specs.Setting.{Setting}
use Rattle.board_rules.specs.declared.call.Entry.{Entry}
use Rattle.board_rules.specs.History.{IsNext, state_after}
use Rattle.board_rules.specs.Step.{after}
use Rattle.board_state.specs.Changes.{JudgedState, WillHold}
use Rattle.board_core.specs.Kept.{CoreState, history_of}

-- the core for which it was judged, the entry that it makes, and what changes
pub record PreparedState : Type 0 where
  pub of : CoreState
  pub entry : Entry
  pub judged : JudgedState

-- the entry may come next after the core's journal, and what changes leads to the state after it
pub record Makes (s : Setting) (p : PreparedState) : Type 0 where
  pub next : IsNext (history_of s p.of).opening p.of.journal p.entry
  pub will : WillHold s p.of.held p.judged.change (after (state_after s p.of.journal) p.entry.call p.entry.reply)
  pub space : length p.of.journal < s.max_events

-- it may be put in place
pub record IsFitting (p : PreparedState) : Type 0 where
  pub judged : p.judged.of ≡ p.of.held
  pub reply : p.judged.reply ≡ p.entry.reply
  pub room : 0 < p.of.room
  pub spare : 0 < p.of.spare
  pub desk_low : 1 ≤ p.entry.desk
  pub desk_high : p.entry.desk ≤ length p.of.turns
