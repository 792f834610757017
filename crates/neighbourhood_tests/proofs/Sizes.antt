-- The customers and the nodes of a sample are few.
use Rattle.std.proofs.Common.{Fits, w32, ℕ, ◌≤◌, ◌+◌, ◌*◌, arith}

pub customers_fit : (rooms : ℕ) → rooms ≤ 140 → Fits w32 (7 * rooms)
customers_fit rooms few = omega arith

pub nodes_fit : (rooms : ℕ) → rooms ≤ 140 → Fits w32 (7 * rooms + 1)
nodes_fit rooms few = omega arith

pub some_customers : (rooms : ℕ) → 1 ≤ rooms → rooms ≤ 140 → (1 ≤ 7 * rooms) × (7 * rooms ≤ 1000)
some_customers rooms some few = (omega arith, omega arith)
