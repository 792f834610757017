-- What a page keeps of its records and of the entries that stand whole beside them.
use Rattle.std.specs.Prelude.{ℕ, ◌≤◌, List, length, All}
use Rattle.board_rules.specs.declared.call.Entry.{Entry}
use Rattle.board_journal.specs.declared.packed.Packed.{Packed}
use Rattle.board_journal.specs.Records.{IsWithin}

-- There is room for 4,096 records and no more are used. Each whole entry has its record, and each record of one names an entry that is there.
pub record IsPage (records : List Packed) (whole : List Entry) (most most_whole : ℕ) : Type 0 where
  pub few : length records ≤ 4096
  pub room : 4096 ≤ most
  pub few_whole : length whole ≤ length records
  pub room_whole : length whole ≤ most_whole
  pub within : All (IsWithin (length whole)) records
