use Rattle.std.proofs.Common.{◌≡◌, ◌≤◌, length}
use Rattle.std.specs.Prelude.{All}
use Rattle.plan_sums.specs.Progress.{IsTallied}
use Rattle.plan_sums.specs.Tours.{tours_before}
use Rattle.plan_sums.proofs.tour.tours.Given as goal

abbrev pub invariant-loop-k : goal.invariant-loop-k
invariant-loop-k l = record {
  tally : IsTallied l.roads l.rows l.k l.tally;
  tours : l.tours.items ≡ tours_before l.roads l.rows l.k;
  few : length l.tours.items ≤ l.k;
  small : All (λ tour. tour.distance ≤ 1000141421342) l.tours.items;
}
