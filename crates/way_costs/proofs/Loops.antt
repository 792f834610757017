-- Loops over stops: the places lie among them, and their number fits.
use Rattle.std.proofs.Common.{◌≡◌, ◌∙◌, ℕ, ◌+◌, ◌-◌, ◌<◌, ◌≤◌, ap, arith, List, length, length-set, slice_index, slice_set}
use Rattle.std.proofs.lemmas.Grind.{common_steps}

pub some_long : (m n : ℕ) → m + 1 ≡ n → 1 ≤ n
some_long m n e = omega arith

pub before_last : (k n : ℕ) → k < n - 1 → k < n
before_last k n h = omega arith

pub next_before : (k n : ℕ) → k < n - 1 → k + 1 < n
next_before k n h = omega arith

pub edge_in : (k n m : ℕ) → k < n - 1 → m + 1 ≡ n → k < m
edge_in k n m h e = omega arith

pub edge_done : (k n m i : ℕ) → k < m → m + 1 ≡ n → n - 1 ≤ i → k < i
edge_done k n m i h e all = omega arith

pub passed : (m k end : ℕ) → m < end → end ≤ k → m < k
passed m k end h l = omega arith

pub edges_room : (m n : ℕ) → m ≡ n - 1 → 1 ≤ n → m + 1 ≡ n
edges_room m n e some = omega arith

pub edges_whole : (m n l : ℕ) → m + 1 ≡ n → l ≡ n - 1 → m ≡ l
edges_whole m n l e f = omega arith

-- one more number of a list that is filled
pub edges_set : (edges : List ℕ) (k x n : ℕ) → length edges + 1 ≡ n → length (slice_set edges k x) + 1 ≡ n
edges_set edges k x n e = ap (λ (m : ℕ). m + 1) (length-set edges k x) ∙ e

pub line_set : (line : List ℕ) (k x n : ℕ) → length line ≡ n → length (slice_set line k x) ≡ n
line_set line k x n e = length-set line k x ∙ e

pub line_in : (k n m : ℕ) → m ≡ n → k < n → k < m
line_in k n m e h = omega arith

pub edges_more : (f : ℕ → ℕ) (edges : List ℕ) (k x : ℕ) → k < length edges → ((m : ℕ) → m < k → slice_index edges m ≡ f m) → x ≡ f k
    → (m : ℕ) → m < k + 1 → slice_index (slice_set edges k x) m ≡ f m
edges_more f edges k x fits below here m h = grind (arith, common_steps)
