use Rattle.std.proofs.Common.{◌≡◌, take}
use Rattle.policy_core.specs.State.{numbers_of}
use Rattle.policy_core.proofs.reviews.all_numbers.Given as goal

abbrev pub invariant-loop-place : goal.invariant-loop-place
invariant-loop-place l = l.numbers.items ≡ numbers_of (take l.place l.sessions.entries)
