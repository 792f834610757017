use Rattle.std.proofs.Common.{◌≡◌, ◌≤◌, length, take}
use Rattle.plan_core.proofs.front.common_front.Given as goal

-- the customers so far are the same
abbrev pub invariant-loop-place : goal.invariant-loop-place
invariant-loop-place l = record {
  same : take l.place l.route ≡ take l.place l.other;
  within : l.place ≤ length l.other;
}
