-- The longest common prefix of two lists.
use Rattle.std.specs.Prelude.{◌≡◌, ℕ, ◌≤◌, nat_eq, List, length, take}
use Rattle.std.specs.List.{common_prefix_len}

-- the first n elements of both are the same, and n is the greatest such number
pub record IsCommonFront (xs ys : List ℕ) (n : ℕ) : Type 0 where
  pub left : n ≤ length xs
  pub right : n ≤ length ys
  pub same : take n xs ≡ take n ys
  pub greatest : (k : ℕ) → k ≤ length xs → k ≤ length ys → take k xs ≡ take k ys → k ≤ n

-- the length of the longest common prefix, as a number
abbrev pub common_front : List ℕ → List ℕ → ℕ
common_front xs ys = common_prefix_len nat_eq xs ys
