use Rattle.std.proofs.Common.{◌≡◌, ◌∙◌, ◌-◌, ap, arith}
use Rattle.worker_runs.specs.Halls.{worker_desks}
use Rattle.worker_runs.proofs.Ends.{alone, few_by, found_by, with_workers}
use Rattle.worker_runs.proofs.hall_run.hall_run.Goals as goal

pub returns-then-orders-eq0 : goal.returns-then-orders-eq0
returns-then-orders-eq0 g c =
    alone g.N.Naming.opening c.args.orders c.args.foyer.room.entries (g.I.Read.remaining c.args.live.now) (g.I.Read.remaining c.run_desk_lines.new.reader) (g.O.Write.contents c.args.writer.now)
    c.in-Ok.seat c.run_desk_lines.new.front.seat (g.O.Write.contents c.run_desk_lines.new.writer) c.run_desk_lines.result c.counted.result c.in-Ok.ensures.first c.if-orders-eq0.true c.run_desk_lines.ensures.ok c.run_desk_lines.ensures.err c.counted.ensures

pub beside-answered-requires-clause-few : goal.beside-answered-requires-clause-few
beside-answered-requires-clause-few g c κs within =
    let n : g.N.Naming.opening.desks - 1 ≡ c.args.orders.workers = omega (arith, c.requires.desks) in
    few_by c.args.foyer.room.entries c.args.orders.workers c.in-Ok.others.items (c.in-Ok.ensures.others ∙ ap (worker_desks c.args.foyer.room.entries) n) c.args.orders.few

pub returns : goal.returns
returns g c =
    let n : g.N.Naming.opening.desks - 1 ≡ c.args.orders.workers = omega (arith, c.requires.desks) in
    with_workers g.N.Naming.opening c.args.orders c.args.foyer.room.entries (g.I.Read.remaining c.args.live.now) (g.I.Read.remaining c.beside-answered.new.live) (g.O.Write.contents c.args.writer.now)
    c.in-Ok.seat c.beside-answered.new.front.seat (g.O.Write.contents c.beside-answered.new.writer) (g.O.Write.contents c.ended.new.writer) _ _ c.ended.result c.in-Ok.ensures.first c.if-orders-eq0.false c.beside-answered.ensures.ok c.beside-answered.ensures.err
    (found_by g.N.Naming.opening c.args.orders c.args.foyer.room.entries (g.I.Read.remaining c.args.live.now) (g.I.Read.remaining c.beside-answered.new.live) (g.O.Write.contents c.args.writer.now) _ _ c.in-Ok.others.items (c.in-Ok.ensures.others ∙ ap (worker_desks c.args.foyer.room.entries) n) c.beside-answered.ensures.searched) c.ended.ensures
