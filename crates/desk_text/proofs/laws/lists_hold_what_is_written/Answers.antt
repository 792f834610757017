use Rattle.desk_text.proofs.Held.{held, held_at_stop}
use Rattle.desk_text.proofs.laws.lists_hold_what_is_written.Goals as goal

pub returns-clause-answered : goal.returns-clause-answered
returns-clause-answered c = held

pub returns-clause-stopped : goal.returns-clause-stopped
returns-clause-stopped c = held_at_stop
