use Rattle.std.proofs.Common.{◌≡◌, ◌≤◌, ◌<◌, ◌⊎◌, ℕ, None, length, drop, slice_index}
use Rattle.pin_core.specs.Pins.{front_of, pin_of}
use Rattle.pin_core.specs.View.{pins_of}
use Rattle.move_judge.specs.Allowed.{AreLoose}
use Rattle.move_judge.proofs.allowed.must_keep.Given as goal

-- the customers so far that have to be kept, and no others
abbrev pub invariant-loop-place : goal.invariant-loop-place
invariant-loop-place g l = record {
  high : l.keep ≤ length l.route;
  front : front_of (pins_of l.view) l.v ≤ l.keep;
  rest : (i : ℕ) → i < l.place → l.keep ≤ i → pin_of (pins_of l.view) (slice_index l.route i) ≡ None;
  held : (k : ℕ) → k < l.keep → (k < front_of (pins_of l.view) l.v) ⊎ ¬ AreLoose (pins_of l.view) (drop k l.route);
}
