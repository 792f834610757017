-- The ways along the stops of a vehicle, and the sums of them.
use Rattle.std.specs.Prelude.{◌≡◌, ◌≤◌, ◌<◌, ℕ, ◌+◌, ◌-◌, ◌*◌, ◌^◌, List, ◌++◌, length, slice_index, take, drop, All, Bool, true, false}
use Rattle.callback_store.specs.Tables.{Table}
use Rattle.way_costs.specs.Ways.{AreSums}

-- such sums, none above 2 ^ 42, were added to others
pub record AddsSums (turned : Bool) (t : Table) (stops : List ℕ) (n : ℕ) (old new : List ℕ) : Type 0 where
  pub added : List ℕ
  pub is : new ≡ old ++ added
  pub sums : AreSums turned t stops n added
  pub small : All (λ x. x ≤ 2 ^ 42) added

-- the sums over the first stops, and behind them those back
pub record AreBothSums (t : Table) (stops : List ℕ) (cells : List ℕ) : Type 0 where
  pub long : length stops - 1 ≤ length cells
  pub sums : AreSums false t stops (length stops - 1) (take (length stops - 1) cells)
  pub back_sums : AreSums true t stops (length stops - 1) (drop (length stops - 1) cells)
  pub small : All (λ x. x ≤ 2 ^ 42) (take (length stops - 1) cells) × All (λ x. x ≤ 2 ^ 42) (drop (length stops - 1) cells)

-- the first n numbers beside its diagonal
pub record ArePicked (w n : ℕ) (cells edges : List ℕ) : Type 0 where
  pub counted : length edges ≡ n
  pub picked : (k : ℕ) → k < n → slice_index edges k ≡ slice_index cells (k * w + (k + 1))
