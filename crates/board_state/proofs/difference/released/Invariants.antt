use Rattle.std.proofs.Common.{◌≡◌, ◌++◌, drop}
use Rattle.board_state.specs.Deltas.{released}
use Rattle.board_state.proofs.difference.released.Given as goal

abbrev pub invariant-loop-k : goal.invariant-loop-k
invariant-loop-k l = l.pins.items ++ released (drop l.k l.touched) (drop l.k l.freed) ≡ released l.touched l.freed
