use Rattle.std.proofs.Common.{◌<◌, ℕ, subst, sym}
use Rattle.callback_store.specs.Tables.{table_at}
use Rattle.dimension_core.specs.Setup.{setting}
use Rattle.way_costs.proofs.Cells.{asked_floor, asked_more, asked_none, asked_ways}
use Rattle.way_costs.proofs.table.read_row.Goals as goal

pub loop-k-init : goal.loop-k-init
loop-k-init g c = asked_none c.args.turned _ c.args.stop c.args.to.now _ _ c.requires.room

pub known_by-way-requires-clause-to : goal.known_by-way-requires-clause-to
known_by-way-requires-clause-to g c = c.requires.to c.loop-k.k 0 c.loop-k-test.true

pub bounds-to-k : goal.bounds-to-k
bounds-to-k g c = c.loop-k-test.true

pub bounds-row-k : goal.bounds-row-k
bounds-row-k g c = subst (λ (n : ℕ). c.loop-k.k < n) (sym c.loop-k.invariant.sized) c.loop-k-test.true

pub loop-k-preserved : goal.loop-k-preserved
loop-k-preserved g c =
    let s = setting c.args.setup.now in
    asked_more c.args.turned (table_at s.tables s.cost) c.args.stop c.args.to.now c.loop-k.row c.loop-k.k c.loop-k.least c.min-least.result c.known_by-way.result c.loop-k-test.true c.loop-k.invariant
    c.known_by-way.ensures c.min-least.ensures

pub returns-clause-sized : goal.returns-clause-sized
returns-clause-sized g c = c.loop-k.invariant.sized

pub returns-clause-ways : goal.returns-clause-ways
returns-clause-ways g c = asked_ways c.args.turned _ c.args.stop c.args.to.now c.loop-k.row c.loop-k.k c.loop-k.least c.loop-k-test.false c.loop-k.invariant

pub returns-clause-least : goal.returns-clause-least
returns-clause-least g c = asked_floor c.args.turned _ c.args.stop c.args.to.now c.loop-k.row c.loop-k.k c.loop-k.least c.loop-k-test.false c.loop-k.invariant

pub known_by-way-requires-clause-known : goal.known_by-way-requires-clause-known
known_by-way-requires-clause-known g c = c.requires.known

pub known_by-way-requires-clause-from : goal.known_by-way-requires-clause-from
known_by-way-requires-clause-from g c = c.requires.stop
