use Rattle.std.proofs.Common.{◌≡◌, ℕ, ◌+◌, ◌*◌, ◌-◌, ◌<◌, ◌≤◌, false, length}
use Rattle.permission_table.specs.Reaching.{is_marked}
use Rattle.permission_table.proofs.reaching.Reaching.next.Given as goal

abbrev pub invariant-loop-block : goal.invariant-loop-block
invariant-loop-block l = record {
  first : l.first < 256;
  start : l.from ≤ 256 * l.block + l.first;
  between : (q : ℕ) → l.from ≤ q → q < 256 * l.block + l.first → q < length l.self-inside.sets.items → is_marked l.self-inside.sets.items l.role q ≡ false;
}

abbrev pub decreases-loop-block : goal.decreases-loop-block
decreases-loop-block l = length l.self-inside.sets.items - 256 * l.block
