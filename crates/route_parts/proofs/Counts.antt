-- Counts of customers and places.
use Rattle.std.proofs.Common.{◌<◌, ◌≤◌, ℕ, ◌+◌, ◌-◌, arith}

pub none_less : (n : ℕ) → n < 0 → ⊥
none_less n h = absurd (omega arith)

pub nearer_end : (n k : ℕ) → k < n → n - (k + 1) < n - k
nearer_end n k h = omega arith

pub some_above : (k n : ℕ) → k < n → 1 ≤ n
some_above k n h = omega arith

pub before_last : (k n : ℕ) → k < n → k ≤ n - 1
before_last k n h = omega arith
