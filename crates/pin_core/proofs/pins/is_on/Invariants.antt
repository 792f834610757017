use Rattle.std.proofs.Common.{◌≡◌, ℕ, ◌+◌, ◌<◌, length, get_or}
use Rattle.pin_core.proofs.pins.is_on.Given as goal

-- the customer is at no index that is nearer than so far
abbrev pub invariant-loop-away : goal.invariant-loop-away
invariant-loop-away l = (k : ℕ) → k < length l.route → l.from < k + l.away → k < l.from + l.away → get_or l.route k 0 ≡ l.customer → ⊥
