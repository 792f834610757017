use Rattle.std.specs.Prelude.{◌≡◌, ℕ, ◌+◌, ◌*◌, ◌<◌, ◌≤◌, List, length, slice_index}
use Rattle.limits.specs.declared.TheConstants.{LARGEST_ANSWER}

-- a stay at each of so many nodes, and the ways between them, row by row: no stay with a way after it is above 1,000,000,000
pub record AreStays (size : ℕ) (stays ways : List ℕ) : Type 0 where
  pub sized : length stays ≡ size
  pub small : (i j : ℕ) → i < size → j < size → slice_index stays i + slice_index ways (i * size + j) ≤ LARGEST_ANSWER
