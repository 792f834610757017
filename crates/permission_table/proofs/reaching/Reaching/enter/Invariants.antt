use Rattle.std.proofs.Common.{◌≡◌, ℕ, ◌-◌, ◌<◌, ◌≤◌, ◌&&◌, ◌||◌, eqb, length}
use Rattle.std.specs.Prelude.{nat_lt}
use Rattle.role_hierarchy.specs.Roles.{has}
use Rattle.permission_table.specs.Reaching.{is_marked}
use Rattle.permission_table.proofs.reaching.Reaching.enter.Given as goal

abbrev pub invariant-loop-role : goal.invariant-loop-role
invariant-loop-role l = record {
  small : l.from ≤ 256;
  places : length l.self-inside.sets.items ≡ length l.initial.self-inside.sets.items;
  marks : (role q : ℕ) → role < 256 → q < length l.initial.self-inside.sets.items →
      is_marked l.self-inside.sets.items role q ≡ ((eqb q l.place && (nat_lt role l.from && has l.roles role)) || is_marked l.initial.self-inside.sets.items role q);
}

abbrev pub decreases-loop-role : goal.decreases-loop-role
decreases-loop-role l = 256 - l.from
