use Rattle.std.proofs.Common.{◌≡◌, ◌<◌, ℕ, slice_index, None}
use Rattle.pin_core.specs.Pins.{pin_of}
use Rattle.pin_core.specs.View.{pins_of}
use Rattle.move_judge.proofs.allowed.are_loose.Given as goal

-- none of the customers so far is pinned
abbrev pub invariant-loop-customer : goal.invariant-loop-customer
invariant-loop-customer l = (k : ℕ) → k < l.customer-index → pin_of (pins_of l.view) (slice_index l.customers k) ≡ None
