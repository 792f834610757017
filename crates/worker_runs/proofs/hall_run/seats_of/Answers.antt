use Rattle.std.proofs.Common.{rules, ◌≤◌, length}
use Rattle.worker_runs.proofs.Halls.{seats_by}
use Rattle.worker_runs.proofs.hall_run.seats_of.Goals as goal

pub returns-clause-first : goal.returns-clause-first
returns-clause-first g c =
    let some : 1 ≤ length c.in-Ok.seats.items = search rules in
    (seats_by c.args.room.entries g.N.Naming.opening.desks c.in-Ok.seats.items c.remove-seat.new.self.items c.remove-seat.result c.in-Ok.ensures some c.remove-seat.ensures.value c.remove-seat.ensures.items).0

pub returns-clause-others : goal.returns-clause-others
returns-clause-others g c =
    let some : 1 ≤ length c.in-Ok.seats.items = search rules in
    (seats_by c.args.room.entries g.N.Naming.opening.desks c.in-Ok.seats.items c.remove-seat.new.self.items c.remove-seat.result c.in-Ok.ensures some c.remove-seat.ensures.value c.remove-seat.ensures.items).1
