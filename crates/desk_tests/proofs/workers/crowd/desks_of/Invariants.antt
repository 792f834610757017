use Rattle.std.proofs.Common.{◌≡◌, map}
use Rattle.desk_tests.proofs.workers.crowd.desks_of.Given as goal

abbrev pub invariant-loop-share : goal.invariant-loop-share
invariant-loop-share g l = l.desks.items ≡ map (λ s. s.desk) l.yielded
