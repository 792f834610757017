-- A journal as contracts see it.
use Rattle.std.specs.Prelude.{ℕ, ◌≤◌, List}
use Rattle.board_rules.specs.declared.call.Entry.{Entry}

pub record Shown : Type 0 where
  pub entries : List Entry
  -- how many more entries fit without a growth, and how many of them may stand whole
  pub room : ℕ
  pub spare : ℕ

-- one more entry of any kind fits
pub record HasRoom (journal : Shown) : Type 0 where
  pub room : 1 ≤ journal.room
  pub spare : 1 ≤ journal.spare
