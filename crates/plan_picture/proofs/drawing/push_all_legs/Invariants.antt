use Rattle.std.proofs.Common.{◌≡◌, ◌++◌}
use Rattle.plan_picture.specs.Marks.{legs_before}
use Rattle.plan_picture.proofs.drawing.push_all_legs.Given as goal

abbrev pub invariant-loop-k : goal.invariant-loop-k
invariant-loop-k l = l.marks.items ≡ l.fn.marks.items ++ legs_before l.roads l.layout l.rows l.k
