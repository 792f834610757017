use Rattle.std.proofs.Common.{◌≡◌, take}
use Rattle.plan_core.specs.Plan.{changes_of}
use Rattle.board_state.proofs.new_routes.shared.Given as goal

-- the first new routes are there once more
abbrev pub invariant-loop-k : goal.invariant-loop-k
invariant-loop-k l = changes_of l.again.items ≡ changes_of (take l.k l.changes)
