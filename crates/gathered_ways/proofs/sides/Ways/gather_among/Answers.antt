use Rattle.std.proofs.Common.{ℕ, List, length, subst}
use Rattle.std.proofs.lemmas.Result.{IfOk-weaker}
use Rattle.callback_store.specs.Tables.{table_at}
use Rattle.dimension_core.specs.Setup.{setting}
use Rattle.gathered_ways.specs.Sides.{AreWaysBetween}
use Rattle.way_costs.specs.Ways.{IsTurned}
use Rattle.gathered_ways.proofs.WaySums.{turned_ways}
use Rattle.gathered_ways.proofs.sides.Ways.gather_among.Goals as goal

pub returns : goal.returns
returns g c =
    let s = setting c.args.setup.now in
    let S = c.args.stops.now in
    let out = c.fill_ways.new.cells.items in
    let into = c.fill_turned.new.back.items in
    IfOk-weaker c.fill_turned.result (λ _. IsTurned (length S) (length S) c.deref.result.now into)
    (λ _. AreWaysBetween (table_at s.tables s.cost) S S (record { out = out; into = into }))
    (λ x turned. record {
      out = c.in_ok-fill_ways.ensures.hops;
      into = turned_ways (table_at s.tables s.cost) S out into c.in_ok-fill_ways.ensures.hops (subst (λ (xs : List ℕ). IsTurned (length S) (length S) xs into) c.deref.ensures.value turned);
    })
    c.fill_turned.ensures

pub fill_ways-requires-clause-from : goal.fill_ways-requires-clause-from
fill_ways-requires-clause-from g c = c.requires.known

pub fill_ways-requires-clause-to : goal.fill_ways-requires-clause-to
fill_ways-requires-clause-to g c = c.requires.known

pub fill_ways-requires-clause-some : goal.fill_ways-requires-clause-some
fill_ways-requires-clause-some g c = (c.requires.some, c.requires.some)

pub fill_ways-requires-clause-short : goal.fill_ways-requires-clause-short
fill_ways-requires-clause-short g c = (c.requires.short, c.requires.short)
