use Rattle.std.proofs.Common.{◌≡◌, take}
use Rattle.policy_core.specs.Wider.{all_wider, held_in}
use Rattle.policy_core.proofs.roles.wider_users.Given as goal

abbrev pub invariant-loop-place : goal.invariant-loop-place
invariant-loop-place l = l.all.items ≡ all_wider l.order l.above l.below held_in (take l.place l.users.entries)
