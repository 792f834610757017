use Rattle.travel_table.proofs.Squares.{travel_at-between}
use Rattle.travel_table.proofs.travel.tables_have_the_travel.Goals as goal

pub returns : goal.returns
returns c = travel_at-between
