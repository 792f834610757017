-- Places in a row: from one on, behind those that were passed over, and before the end.
use Rattle.std.proofs.Common.{◌≡◌, ◌≢◌, ℕ, ◌+◌, ◌<◌, ◌≤◌, arith}

pub begun : (a b : ℕ) → 1 ≤ a → a ≤ b → 1 ≤ b
begun a b h k = omega arith

pub found_below : (k end : ℕ) → k ≤ end → k ≢ end → k + 1 ≤ end
found_below k end h other = omega arith

pub found_within : (k end : ℕ) → k ≤ end → k ≢ end → k < end
found_within k end h other = omega arith

pub same : (n : ℕ) → n ≤ n
same n = omega arith

pub on : (a b k : ℕ) → a ≤ b → b ≤ k → a ≤ k
on a b k h l = omega arith

pub on_next : (a b k : ℕ) → a ≤ b → b ≤ k → a ≤ k + 1
on_next a b k h l = omega arith

pub above : (a b k : ℕ) → a + 1 ≤ b → b ≤ k → a < k
above a b k h l = omega arith

pub before : (k b end : ℕ) → k < b → b ≤ end → k < end
before k b end h l = omega arith

pub before_end : (k b end : ℕ) → b ≡ end → k < end → k < b
before_end k b end e h = omega arith

pub both_ways : (a end : ℕ) → end ≤ a → a ≤ end → a ≡ end
both_ways a end h l = omega arith
