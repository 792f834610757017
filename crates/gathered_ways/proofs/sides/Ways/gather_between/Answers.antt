use Rattle.std.proofs.Common.{true}
use Rattle.std.proofs.lemmas.Result.{IfOk-weaker}
use Rattle.callback_store.specs.Tables.{table_at}
use Rattle.dimension_core.specs.Setup.{setting}
use Rattle.gathered_ways.specs.Sides.{AreFloored, AreWaysBetween}
use Rattle.way_costs.specs.Ways.{AreFloors, AreHopsFrom}
use Rattle.gathered_ways.proofs.sides.Ways.gather_between.Goals as goal

pub returns-clause-ways : goal.returns-clause-ways
returns-clause-ways g c =
    let s = setting c.args.setup.now in
    IfOk-weaker c.fill_ways-2.result (λ _. AreHopsFrom true (table_at s.tables s.cost) c.args.from.now c.args.to.now 1 0 c.fill_ways-2.new.cells.items)
    (λ _. AreWaysBetween (table_at s.tables s.cost) c.args.from.now c.args.to.now (record { out = c.fill_ways.new.cells.items; into = c.fill_ways-2.new.cells.items }))
    (λ x into. record { out = c.in_ok-fill_ways.ensures.hops; into = into }) c.fill_ways-2.ensures.hops

pub returns-clause-floors : goal.returns-clause-floors
returns-clause-floors g c =
    IfOk-weaker c.fill_ways-2.result (λ _. AreFloors c.args.from.now c.args.to.now 1 0 c.fill_ways-2.new.cells.items)
    (λ _. AreFloored c.args.from.now c.args.to.now (record { out = c.fill_ways.new.cells.items; into = c.fill_ways-2.new.cells.items }))
    (λ x into. record { out = c.in_ok-fill_ways.ensures.floors; into = into }) c.fill_ways-2.ensures.floors

pub fill_ways-requires-clause-from : goal.fill_ways-requires-clause-from
fill_ways-requires-clause-from g c = c.requires.from

pub fill_ways-requires-clause-to : goal.fill_ways-requires-clause-to
fill_ways-requires-clause-to g c = c.requires.to

pub fill_ways-requires-clause-some : goal.fill_ways-requires-clause-some
fill_ways-requires-clause-some g c = c.requires.some

pub fill_ways-requires-clause-short : goal.fill_ways-requires-clause-short
fill_ways-requires-clause-short g c = c.requires.short

pub fill_ways-requires-2-clause-from : goal.fill_ways-requires-2-clause-from
fill_ways-requires-2-clause-from g c = c.requires.from

pub fill_ways-requires-2-clause-to : goal.fill_ways-requires-2-clause-to
fill_ways-requires-2-clause-to g c = c.requires.to

pub fill_ways-requires-2-clause-some : goal.fill_ways-requires-2-clause-some
fill_ways-requires-2-clause-some g c = c.requires.some

pub fill_ways-requires-2-clause-short : goal.fill_ways-requires-2-clause-short
fill_ways-requires-2-clause-short g c = c.requires.short
