use Rattle.std.proofs.Common.{◌≡◌, All}
use Rattle.dimension_core.specs.Setup.{setting}
use Rattle.desk_tests.proofs.workers.crowd.work_often.Given as goal

abbrev pub invariant-loop-run : goal.invariant-loop-run
invariant-loop-run g l = All (λ d. setting d.setup.value ≡ g.N.Naming.opening.setting) l.desks.items
