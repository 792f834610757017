-- Whether an event is taken: it has its turn, and the journal is not full.
use Rattle.std.specs.Prelude.{◌≡◌, ℕ, ◌<◌, ◌≤◌, true, false, length}
use Rattle.dimension_core.specs.Setting.{Setting}
use Rattle.board_rules.specs.declared.reply.Fault.{Fault}
use Rattle.board_rules.specs.declared.reply.Fault.TheVariants.{OutOfTurn, Full, NoMemory}
use Rattle.board_rules.specs.History.{is_turn}
use Rattle.board_core.specs.Kept.{CoreState}

-- an event of the desk with this turn is taken
pub record IsTaken (s : Setting) (core : CoreState) (desk turn : ℕ) : Type 0 where
  pub low : 1 ≤ desk
  pub high : desk ≤ length core.turns
  pub due : is_turn (length core.turns) core.journal desk turn ≡ true
  pub space : length core.journal < s.max_events

-- it is not taken, and this is why
abbrev pub IsDue : Setting → CoreState → ℕ → ℕ → Fault → Type 0
IsDue s core desk turn OutOfTurn = is_turn (length core.turns) core.journal desk turn ≡ false
IsDue s core desk turn Full = (is_turn (length core.turns) core.journal desk turn ≡ true) × (length core.journal ≡ s.max_events)
IsDue s core desk turn NoMemory = ⊥
