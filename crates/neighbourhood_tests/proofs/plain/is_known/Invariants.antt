use Rattle.std.proofs.Common.{◌<◌, ◌≤◌, ℕ, slice_index}
use Rattle.neighbourhood_tests.proofs.plain.is_known.Given as goal

-- the customers so far are known
abbrev pub invariant-loop-customer : goal.invariant-loop-customer
invariant-loop-customer l = (k : ℕ) → k < l.customer-index → slice_index l.route k ≤ l.customers
