-- What is known where the cost callback was given as its answers.
use Rattle.std.specs.Prelude.{◌≡◌, ℕ, ◌+◌, ◌*◌, ◌≤◌, Bool, List, length, slice_index}
use Rattle.callback_store.specs.Tables.{entry, table_at}
use Rattle.dimension_core.specs.Setting.{Setting}
use Rattle.way_costs.specs.Ways.{hop_by}

-- all answers of the cost callback, row by row
pub record AreAnswers (s : Setting) (answers : List ℕ) : Type 0 where
  pub sized : length answers ≡ (s.customers + 1) * (s.customers + 1)
  pub at : (i j : ℕ) → slice_index answers (i * (s.customers + 1) + j) ≡ entry (table_at s.tables s.cost) i j

-- two ways of reading, as ways are driven or driven back, cost the same between any two nodes
abbrev pub AreAlike : Setting → Bool → Bool → Type 0
AreAlike s across turned = (i j : ℕ) → i ≤ s.customers → j ≤ s.customers → hop_by across (table_at s.tables s.cost) i j ≡ hop_by turned (table_at s.tables s.cost) i j
