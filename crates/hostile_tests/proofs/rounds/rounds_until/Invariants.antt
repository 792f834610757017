use Rattle.std.proofs.Common.{◌≡◌}
use Rattle.dimension_core.specs.Setup.{setting}
use Rattle.hostile_tests.proofs.rounds.rounds_until.Given as goal

abbrev pub invariant-loop-refused : goal.invariant-loop-refused
invariant-loop-refused g l = setting l.desk.setup.value ≡ g.N.Naming.opening.setting
