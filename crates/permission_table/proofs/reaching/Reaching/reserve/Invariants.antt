use Rattle.std.proofs.Common.{◌≡◌, ℕ, ◌-◌, ◌<◌, ◌≤◌, false, length}
use Rattle.permission_table.specs.Reaching.{is_marked}
use Rattle.permission_table.proofs.reaching.Reaching.reserve.Given as goal

abbrev pub invariant-loop-self : goal.invariant-loop-self
invariant-loop-self l = record {
  longer : length l.initial.self ≤ length l.self;
  same : (role place : ℕ) → role < 256 → place < length l.initial.self → is_marked l.self role place ≡ is_marked l.initial.self role place;
  new : (role place : ℕ) → role < 256 → length l.initial.self ≤ place → place < length l.self → is_marked l.self role place ≡ false;
}

abbrev pub decreases-loop-self : goal.decreases-loop-self
decreases-loop-self l = l.places - length l.self
