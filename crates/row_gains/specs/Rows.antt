-- Rows of moves of one kind: what the ways cost that each of them loses and gains.
use Rattle.std.specs.Prelude.{◌≤◌, ◌<◌, ℕ, ◌+◌, ◌-◌, ◌^◌, length, slice_index, All}
use Rattle.row_gains.specs.declared.gains.CutRow.{CutRow}
use Rattle.row_gains.specs.declared.gains.SwapRow.{SwapRow}
use Rattle.row_gains.specs.declared.gains.ReverseRow.{ReverseRow}

-- a row of cuts has the ways of each before an end, and none of those lost costs more than its most
pub record IsCutRow (row : CutRow) (end : ℕ) : Type 0 where
  pub edges : end ≤ length row.edges.now
  pub to : end ≤ length row.to.now
  pub on : end < length row.on.now
  pub most : All (λ x. x ≤ row.most) row.edges.now

-- a cut loses the way from its stop to the next, and gains one from its stop and one to the next
abbrev pub lost_by_cut : CutRow → ℕ → ℕ
lost_by_cut row k = slice_index row.edges.now k

abbrev pub gained_by_cut : CutRow → ℕ → ℕ
gained_by_cut row k = slice_index row.to.now k + slice_index row.on.now (k + 1)

-- the same of a row of swaps
pub record IsSwapRow (row : SwapRow) (end : ℕ) : Type 0 where
  pub edges : end ≤ length row.edges.now
  pub before : end ≤ length row.before.now
  pub here : end < length row.here.now
  pub next : end ≤ length row.next.now
  pub back : end ≤ length row.back.now
  pub most : All (λ x. x ≤ row.most) row.edges.now

-- a swap loses the ways to its stop and from there, and gains those to the stop and the given one in each other's place, and from there
abbrev pub lost_by_swap : SwapRow → ℕ → ℕ
lost_by_swap row k = slice_index row.edges.now (k - 1) + slice_index row.edges.now k

abbrev pub gained_by_swap : SwapRow → ℕ → ℕ
gained_by_swap row k = slice_index row.before.now k + slice_index row.next.now k + slice_index row.back.now (k - 1) + slice_index row.here.now (k + 1)

-- the same of a row of reverses, with sums of ways that are not too great to be added
pub record IsReverseRow (row : ReverseRow) (end : ℕ) : Type 0 where
  pub edges : end ≤ length row.edges.now
  pub sums : end ≤ length row.sums.now
  pub back_sums : end ≤ length row.back_sums.now
  pub before : end ≤ length row.before.now
  pub here : end < length row.here.now
  pub small : All (λ x. x ≤ 2 ^ 42) row.sums.now × All (λ x. x ≤ 2 ^ 42) row.back_sums.now

-- a reverse loses the ways up to its stop and the way from there, and gains those ways driven back, and the ways at their ends
abbrev pub lost_by_reverse : ReverseRow → ℕ → ℕ
lost_by_reverse row k = slice_index row.sums.now k + slice_index row.edges.now k

abbrev pub gained_by_reverse : ReverseRow → ℕ → ℕ
gained_by_reverse row k = slice_index row.before.now k + slice_index row.back_sums.now k + slice_index row.here.now (k + 1)
