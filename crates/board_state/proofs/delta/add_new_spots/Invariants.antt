use Rattle.std.proofs.Common.{◌≡◌, ◌+◌, ◌++◌, drop}
use Rattle.board_state.specs.Deltas.{spots_behind}
use Rattle.board_state.proofs.delta.add_new_spots.Given as goal

abbrev pub invariant-loop-index : goal.invariant-loop-index
invariant-loop-index l = l.places.items ++ spots_behind l.vehicle (l.index + 1) l.old (drop l.index l.new)
    ≡ l.fn.places.items ++ spots_behind l.vehicle (l.kept + 1) l.old (drop l.kept l.new)
