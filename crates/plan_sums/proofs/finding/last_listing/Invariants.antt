use Rattle.std.proofs.Common.{map}
use Rattle.plan_sums.specs.Progress.{IsSearched}
use Rattle.plan_sums.proofs.finding.last_listing.Given as goal

abbrev pub invariant-loop-k : goal.invariant-loop-k
invariant-loop-k l = IsSearched (map (λ w. w.now) l.lines) l.k l.search
