use Rattle.std.proofs.Common.{◌∙◌, length}
use Rattle.way_costs.proofs.Cells.{row_at, row_kept, row_least, row_long, row_sized}
use Rattle.way_costs.proofs.table.fill_at.Goals as goal

pub fill_row-requires-clause-room : goal.fill_row-requires-clause-room
fill_row-requires-clause-room g c = row_long c.args.at (length c.args.to.now) _ c.requires.room

pub returns-clause-sized : goal.returns-clause-sized
returns-clause-sized g c = row_sized c.args.at (length c.args.to.now) _ _ c.requires.room c.fill_row.ensures.sized

pub returns-clause-ways : goal.returns-clause-ways
returns-clause-ways g c = λ k h. row_at c.args.at (length c.args.to.now) _ _ _ c.requires.room c.fill_row.ensures.sized k h ∙ c.fill_row.ensures.ways k h

pub returns-clause-kept : goal.returns-clause-kept
returns-clause-kept g c = λ k h. row_kept c.args.at (length c.args.to.now) _ _ _ c.requires.room k h

pub returns-clause-least : goal.returns-clause-least
returns-clause-least g c = λ k h. row_least c.args.at (length c.args.to.now) _ _ _ _ c.requires.room c.fill_row.ensures.sized c.fill_row.ensures.least k h

pub fill_row-requires-clause-known : goal.fill_row-requires-clause-known
fill_row-requires-clause-known g c = c.requires.known

pub fill_row-requires-clause-across : goal.fill_row-requires-clause-across
fill_row-requires-clause-across g c = c.requires.across

pub fill_row-requires-clause-stop : goal.fill_row-requires-clause-stop
fill_row-requires-clause-stop g c = c.requires.stop

pub fill_row-requires-clause-to : goal.fill_row-requires-clause-to
fill_row-requires-clause-to g c = c.requires.to

pub fill_row-requires-clause-answers : goal.fill_row-requires-clause-answers
fill_row-requires-clause-answers g c = c.requires.answers

pub fill_row-requires-clause-nodes : goal.fill_row-requires-clause-nodes
fill_row-requires-clause-nodes g c = c.requires.nodes
