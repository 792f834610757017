use Rattle.std.proofs.Common.{ℕ, ◌≤◌}
use Rattle.pin_core.specs.Pins.{IsHeld}
use Rattle.pin_core.specs.View.{pins_of}
use Rattle.neighbourhood_tests.proofs.views.do_pins_hold.Given as goal

-- the customers so far are held
abbrev pub invariant-loop-before : goal.invariant-loop-before
invariant-loop-before l = (c : ℕ) → 1 ≤ c → c ≤ l.before → IsHeld (pins_of l.view) l.plan.routes c
