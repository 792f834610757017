use Rattle.std.proofs.Common.{ℕ, ◌≤◌, take, slice_index}
use Rattle.plan_core.proofs.Settled.{AreSettled, OthersStay}
use Rattle.plan_core.proofs.replace.settle.Given as goal

-- what is promised, of the customers so far
abbrev pub invariant-loop-customer : goal.invariant-loop-customer
invariant-loop-customer l = record {
  settled : AreSettled (take l.customer-index l.customers) l.vehicle l.homes;
  others : OthersStay (take l.customer-index l.customers) l.fn.homes l.homes;
  known : (n : ℕ) → l.vehicle ≤ n → ((k : ℕ) → slice_index l.fn.homes k ≤ n) → (k : ℕ) → slice_index l.homes k ≤ n;
}
