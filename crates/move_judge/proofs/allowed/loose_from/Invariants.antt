use Rattle.std.proofs.Common.{◌≡◌, ◌+◌, ◌-◌, ◌<◌, ℕ, None, length, slice_index}
use Rattle.pin_core.specs.Pins.{pin_of}
use Rattle.pin_core.specs.View.{pins_of}
use Rattle.move_judge.proofs.allowed.loose_from.Given as goal

-- the customers so far are there, and none of them is pinned
abbrev pub invariant-loop-k : goal.invariant-loop-k
invariant-loop-k g l = (i : ℕ) → i < l.k → (l.place - 1 + i < length l.route) × (pin_of (pins_of l.view) (slice_index l.route (l.place - 1 + i)) ≡ None)
