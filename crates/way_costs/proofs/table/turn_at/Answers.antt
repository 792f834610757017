use Rattle.std.proofs.Common.{◌-◌, ◌∙◌, arith}
use Rattle.way_costs.proofs.Cells.{row_at, row_kept, row_long, row_sized}
use Rattle.way_costs.proofs.table.turn_at.Goals as goal

pub turn_column-requires-clause-room : goal.turn_column-requires-clause-room
turn_column-requires-clause-room c =
    let long = row_long c.args.at (c.args.width - 1) _ c.requires.room in
    let column = c.requires.column in
    omega arith

pub returns-clause-sized : goal.returns-clause-sized
returns-clause-sized c =
    let long = row_long c.args.at (c.args.width - 1) _ c.requires.room in
    row_sized c.args.at (c.args.width - 1) _ _ c.requires.room (c.turn_column.ensures.sized ∙ long)

pub returns-clause-cells : goal.returns-clause-cells
returns-clause-cells c = λ k h.
    let long = row_long c.args.at (c.args.width - 1) _ c.requires.room in
    row_at c.args.at (c.args.width - 1) _ _ _ c.requires.room (c.turn_column.ensures.sized ∙ long) k h ∙ c.turn_column.ensures.cells k (omega arith)

pub returns-clause-kept : goal.returns-clause-kept
returns-clause-kept c = λ k h. row_kept c.args.at (c.args.width - 1) _ _ _ c.requires.room k h
