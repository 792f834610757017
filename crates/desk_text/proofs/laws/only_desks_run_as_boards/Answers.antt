use Rattle.desk_text.proofs.Alone.{alone, alone_at_stop}
use Rattle.desk_text.proofs.laws.only_desks_run_as_boards.Goals as goal

pub returns-clause-answered : goal.returns-clause-answered
returns-clause-answered c = alone

pub returns-clause-stopped : goal.returns-clause-stopped
returns-clause-stopped c = alone_at_stop
