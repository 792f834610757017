use Rattle.std.proofs.Common.{drop}
use Rattle.dimension_core.specs.Setup.{setting}
use Rattle.plan_core.specs.Plan.{changes_of}
use Rattle.denial_facts.proofs.Rest.{IsRest}
use Rattle.denial_facts.proofs.excess.first_out.Given as goal

abbrev pub invariant-loop-k : goal.invariant-loop-k
invariant-loop-k g l = IsRest (setting l.setup) (changes_of l.changes) (changes_of (drop l.k l.changes)) l.vehicle l.dimension
