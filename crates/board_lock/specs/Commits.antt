-- What a call adds to the journal, and to what its desk has seen.
use Rattle.std.specs.Prelude.{◌≡◌, ℕ, ◌+◌, ◌<◌, ◌≤◌, false, List, [], ◌∷◌, ◌++◌, length}
use mathlib.Core.List.{IsPrefix}
use Rattle.board_rules.specs.declared.call.Call.{Call}
use Rattle.board_rules.specs.declared.call.Entry.{Entry}
use Rattle.board_rules.specs.declared.reply.Reply.{Reply}
use Rattle.board_rules.specs.declared.reply.Fault.{Fault}
use Rattle.board_rules.specs.declared.reply.Fault.TheVariants.{OutOfTurn, Full, NoMemory}
use Rattle.board_rules.specs.History.{Opening, IsLegal, turns_of, is_turn}

abbrev pub Legal : Opening → List Entry → Type 0
Legal o entries = IsLegal (record { opening = o; entries = entries })

-- the journal had room, gains this entry alone, and is legal
pub record IsCommitted (o : Opening) (before : List Entry) (e : Entry) (after : List Entry) : Type 0 where
  pub room : length before < o.setting.max_events
  pub after_is : after ≡ before ++ e ∷ []
  pub legal : Legal o after

-- why an event of the desk with this turn was not taken; memory runs out only where the journal has room
abbrev pub IsFault : Opening → List Entry → ℕ → ℕ → Fault → Type 0
IsFault o before desk turn OutOfTurn = is_turn o.desks before desk turn ≡ false
IsFault o before desk turn Full = length before ≡ o.setting.max_events
IsFault o before desk turn NoMemory = length before < o.setting.max_events

abbrev pub entry : ℕ → ℕ → Call → Reply → Entry
entry desk turn call reply = record { desk = desk; turn = turn; call = call; reply = reply }

-- What was seen is legal, has no more entries than the board may have, begins with what had been seen, and ends with this call and its
-- reply, which stands behind all that had been seen. It has one turn of the desk more.
pub record Submitted (o : Opening) (desk own : ℕ) (call : Call) (reply : Reply) (before after : List Entry) : Type 0 where
  pub legal : Legal o after
  pub few : length after ≤ o.setting.max_events
  pub between : List Entry
  pub after_is : after ≡ (before ++ between) ++ entry desk (own + 1) call reply ∷ []
  pub turns_are : turns_of desk after ≡ own + 1

-- what was seen is legal, begins with what had been seen, and has as many turns of the desk
pub record Looked (o : Opening) (desk own : ℕ) (before after : List Entry) : Type 0 where
  pub legal : Legal o after
  pub grows : IsPrefix before after
  pub turns_are : turns_of desk after ≡ own

-- the journal is full, or it has room and memory ran out
abbrev pub IsRefusal : Opening → List Entry → Fault → Type 0
IsRefusal o entries OutOfTurn = ⊥
IsRefusal o entries Full = length entries ≡ o.setting.max_events
IsRefusal o entries NoMemory = length entries < o.setting.max_events

pub record Faulted (o : Opening) (desk own : ℕ) (fault : Fault) (before after : List Entry) : Type 0 where
  pub looked : Looked o desk own before after
  pub refusal : IsRefusal o after fault
