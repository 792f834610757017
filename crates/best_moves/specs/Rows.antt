-- Rows of candidates: moves of one kind, one at each of some stops.
use Rattle.std.specs.Prelude.{ℕ, ◌+◌, ◌-◌}
use Rattle.move_core.specs.declared.moves.Move.{Move}
use Rattle.move_core.specs.declared.moves.Move.TheVariants.{Shift, Swap, Reverse, Cross}
use Rattle.move_judge.specs.Near.{IsNear}
use Rattle.best_moves.specs.declared.kinds.Kind.{Kind}
use Rattle.best_moves.specs.declared.kinds.Kind.TheVariants.{Shifts, Swaps, Reverses, Crosses}
use Rattle.best_moves.specs.Searched.{Searched, IsPossible, Saves}

-- the move of a kind at a stop
abbrev pub move_at : Searched → Kind → ℕ → Move
move_at q (Shifts place n offset) k = Shift q.v place n q.w (k - offset + 1)
move_at q (Swaps place) k = Swap q.v place q.w k
move_at q (Reverses first) k = Reverse q.v first k
move_at q (Crosses keep) k = Cross q.v keep q.w k

-- the first stop at which there may be one
abbrev pub offset_of : Kind → ℕ
offset_of (Shifts place n offset) = offset
offset_of (Swaps place) = 0
offset_of (Reverses first) = 0
offset_of (Crosses keep) = 0

-- the move is one of those searched, and loses and gains ways of such costs
pub record IsCandidate (q : Searched) (mv : Move) (lost gained : ℕ) : Type 0 where
  pub possible : IsPossible q mv
  pub near : IsNear q.v q.w mv
  pub saving : Saves q mv lost gained
