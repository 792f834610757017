use Rattle.way_costs.specs.Ways.{IsTurned}
use Rattle.std.proofs.lemmas.Result.{err_from_is_err_and}
use Rattle.std.proofs.Common.{◌∙◌, ℕ, List, length, subst, sym}
use Rattle.way_costs.proofs.Cells.{table_fits, written_back}
use Rattle.way_costs.proofs.table.fill_turned.Goals as goal

pub turn-requires-clause-sized : goal.turn-requires-clause-sized
turn-requires-clause-sized c = c.requires.sized

pub turn-requires-clause-short : goal.turn-requires-clause-short
turn-requires-clause-short c = c.requires.short

pub overflow_mul-width : goal.overflow_mul-width
overflow_mul-width c = table_fits _ _ c.requires.short c.requires.short

pub turn-requires-clause-room : goal.turn-requires-clause-room
turn-requires-clause-room c = c.as_mut_slice.ensures.len ∙ c.in_ok-resize.ensures.len

pub returns : goal.returns
returns c =
    subst (λ (xs : List ℕ). IsTurned (length c.args.stops.now) (length c.args.stops.now) c.args.cells.now xs)
    (written_back c.resize.new.self.len c.turn.new.back _ (c.turn.ensures.whole ∙ sym c.in_ok-resize.ensures.len)) c.turn.ensures

pub returns-in_err-resize : goal.returns-in_err-resize
returns-in_err-resize c = let p = err_from_is_err_and c.from_residual.result c.from_residual.ensures.1 in rw p.1 tt
