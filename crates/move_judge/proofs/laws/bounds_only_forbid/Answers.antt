use Rattle.move_judge.proofs.Scoping.{view_within, allowed_without}
use Rattle.move_judge.proofs.Free.{allowed_in_bounds}
use Rattle.move_judge.proofs.laws.bounds_only_forbid.Goals as goal

pub returns : goal.returns
returns c = record { views = view_within; allowed = allowed_without; fitting = allowed_in_bounds }
