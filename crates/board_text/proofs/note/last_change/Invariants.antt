use Rattle.std.proofs.Common.{◌≤◌, ◌-◌}
use Rattle.plan_core.specs.Plan.{stamp_of}
use Rattle.board_text.proofs.note.last_change.Given as goal

abbrev pub invariant-halves : goal.invariant-halves
invariant-halves l = (l.low ≤ stamp_of l.plan l.vehicle) × (stamp_of l.plan l.vehicle ≤ l.high)

abbrev pub decreases-halves : goal.decreases-halves
decreases-halves l = l.high - l.low
