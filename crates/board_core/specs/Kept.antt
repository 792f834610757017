-- What a board's core holds, and what it keeps of its history.
use Rattle.std.specs.Prelude.{◌≡◌, ℕ, ◌-◌, ◌≤◌, List, length, slice_index}
use Rattle.limits.specs.declared.TheConstants.{MOST_DESKS}
use Rattle.dimension_core.specs.Setting.{Setting}
use Rattle.board_rules.specs.declared.call.Entry.{Entry}
pub use Rattle.board_journal.specs.Entries.{entry_of}
use Rattle.board_rules.specs.History.{History, state_after, turns_of, IsLegal}
use Rattle.board_state.specs.Held.{HeldState, Holds}

-- The core as contracts see it: what it holds, the journal, each desk's last turn, how many more entries fit without a growth, and how many
-- of them may be kept whole.
pub record CoreState : Type 0 where
  pub held : HeldState
  pub journal : List Entry
  pub turns : List ℕ
  pub room : ℕ
  pub spare : ℕ

-- the history of a core that was opened with these numbers, tables and dimensions
abbrev pub history_of : Setting → CoreState → History
history_of s core = record { opening = record { setting = s; desks = length core.turns }; entries = core.journal }

-- The core's history is legal, and what it holds stands for the state after that history. Each desk's turn is the number of its entries,
-- and there are 1 to 64 desks. There are no more entries than the setup's limit.
pub record IsKept (s : Setting) (core : CoreState) : Type 0 where
  pub legal : IsLegal (history_of s core)
  pub held : Holds s core.held (state_after s core.journal)
  pub few : length core.journal ≤ s.max_events
  pub turns : (desk : ℕ) → 1 ≤ desk → desk ≤ length core.turns → slice_index core.turns (desk - 1) ≡ turns_of desk core.journal
  pub some_desk : 1 ≤ length core.turns
  pub few_desks : length core.turns ≤ MOST_DESKS

-- the core keeps its history for some setting that has this vehicle, or this customer
abbrev pub HasVehicle : CoreState → ℕ → Type 0
HasVehicle core v = (s : Setting) × IsKept s core × (1 ≤ v) × (v ≤ s.vehicles)

abbrev pub HasCustomer : CoreState → ℕ → Type 0
HasCustomer core c = (s : Setting) × IsKept s core × (1 ≤ c) × (c ≤ s.customers)
