use Rattle.std.proofs.Common.{◌∙◌, arith, refl, slice_index, true, false}
use Rattle.callback_store.specs.Tables.{table_at}
use Rattle.dimension_core.specs.Setup.{setting}
use Rattle.way_costs.proofs.Cells.{depot_asked, node_asked, nodes_asked, ways_by, ways_of}
use Rattle.way_costs.proofs.table.fill_row.Goals as goal

pub returns-in-Some-clause-ways : goal.returns-in-Some-clause-ways
returns-in-Some-clause-ways g c = λ k h. c.read_row.ensures.ways k h ∙ c.requires.across c.args.stop (slice_index c.args.to.now k) c.requires.stop (c.requires.to k 0 h)

pub returns-then-turned-clause-sized : goal.returns-then-turned-clause-sized
returns-then-turned-clause-sized g c = c.ask_back.ensures.sized

pub returns-then-turned-clause-ways : goal.returns-then-turned-clause-ways
returns-then-turned-clause-ways g c = let s = setting c.args.setup.now in ways_by c.args.asking.now.turned true (table_at s.tables s.cost) c.args.stop c.args.to.now _ c.if-turned.true (ways_of true _ (table_at s.tables s.cost) c.args.stop c.args.stop c.args.to.now _ c.requires.answers refl c.ask_back.ensures.ways)

pub returns-then-turned-clause-least : goal.returns-then-turned-clause-least
returns-then-turned-clause-least g c = c.ask_back.ensures.least

pub returns-else-turned-clause-sized : goal.returns-else-turned-clause-sized
returns-else-turned-clause-sized g c = c.ask_out.ensures.sized

pub returns-else-turned-clause-ways : goal.returns-else-turned-clause-ways
returns-else-turned-clause-ways g c = let s = setting c.args.setup.now in ways_by c.args.asking.now.turned false (table_at s.tables s.cost) c.args.stop c.args.to.now _ c.if-turned.false (ways_of false _ (table_at s.tables s.cost) c.args.stop c.args.stop c.args.to.now _ c.requires.answers refl c.ask_out.ensures.ways)

pub returns-else-turned-clause-least : goal.returns-else-turned-clause-least
returns-else-turned-clause-least g c = c.ask_out.ensures.least

pub read_row-requires-clause-known : goal.read_row-requires-clause-known
read_row-requires-clause-known g c = rw c.in-Some.is at c.requires.known

pub read_row-requires-clause-stop : goal.read_row-requires-clause-stop
read_row-requires-clause-stop g c = c.requires.stop

pub read_row-requires-clause-to : goal.read_row-requires-clause-to
read_row-requires-clause-to g c = c.requires.to

pub read_row-requires-clause-room : goal.read_row-requires-clause-room
read_row-requires-clause-room g c = c.requires.room

pub returns-in-Some-clause-sized : goal.returns-in-Some-clause-sized
returns-in-Some-clause-sized g c = c.read_row.ensures.sized

pub returns-in-Some-clause-least : goal.returns-in-Some-clause-least
returns-in-Some-clause-least g c = c.read_row.ensures.least

pub ask_back-requires-clause-stop : goal.ask_back-requires-clause-stop
ask_back-requires-clause-stop g c = node_asked _ _ c.args.stop c.requires.nodes c.requires.stop

pub ask_back-requires-clause-to : goal.ask_back-requires-clause-to
ask_back-requires-clause-to g c = nodes_asked _ _ c.args.to.now c.requires.nodes c.requires.to

pub ask_back-requires-clause-room : goal.ask_back-requires-clause-room
ask_back-requires-clause-room g c = c.requires.room

pub ask_out-requires-clause-stop : goal.ask_out-requires-clause-stop
ask_out-requires-clause-stop g c = node_asked _ _ c.args.stop c.requires.nodes c.requires.stop

pub ask_out-requires-clause-to : goal.ask_out-requires-clause-to
ask_out-requires-clause-to g c = nodes_asked _ _ c.args.to.now c.requires.nodes c.requires.to

pub ask_out-requires-clause-room : goal.ask_out-requires-clause-room
ask_out-requires-clause-room g c = c.requires.room

pub ask_from_depot-requires-clause-depot : goal.ask_from_depot-requires-clause-depot
ask_from_depot-requires-clause-depot g c = depot_asked _ _ c.requires.nodes

pub ask_from_depot-requires-clause-to : goal.ask_from_depot-requires-clause-to
ask_from_depot-requires-clause-to g c = nodes_asked _ _ c.args.to.now c.requires.nodes c.requires.to

pub returns-then-stop-eq0-clause-sized : goal.returns-then-stop-eq0-clause-sized
returns-then-stop-eq0-clause-sized g c = c.ask_from_depot.ensures.sized

pub returns-then-stop-eq0-clause-ways : goal.returns-then-stop-eq0-clause-ways
returns-then-stop-eq0-clause-ways g c =
    let s = setting c.args.setup.now in
    ways_of c.args.asking.now.turned _ (table_at s.tables s.cost) 0 c.args.stop c.args.to.now _ c.requires.answers c.if-stop-eq0.true c.ask_from_depot.ensures.ways

pub returns-then-stop-eq0-clause-least : goal.returns-then-stop-eq0-clause-least
returns-then-stop-eq0-clause-least g c = λ k d h. omega arith

pub ask_many-requires-clause-stop : goal.ask_many-requires-clause-stop
ask_many-requires-clause-stop g c = node_asked _ _ c.args.stop c.requires.nodes c.requires.stop

pub ask_many-requires-clause-to : goal.ask_many-requires-clause-to
ask_many-requires-clause-to g c = nodes_asked _ _ c.args.to.now c.requires.nodes c.requires.to

pub ask_many-requires-clause-room : goal.ask_many-requires-clause-room
ask_many-requires-clause-room g c = c.requires.room

pub returns-then-to-gt-FEW-clause-sized : goal.returns-then-to-gt-FEW-clause-sized
returns-then-to-gt-FEW-clause-sized g c = c.ask_many.ensures.sized

pub returns-then-to-gt-FEW-clause-ways : goal.returns-then-to-gt-FEW-clause-ways
returns-then-to-gt-FEW-clause-ways g c = let s = setting c.args.setup.now in ways_of c.args.asking.now.turned _ (table_at s.tables s.cost) c.args.stop c.args.stop c.args.to.now _ c.requires.answers refl c.ask_many.ensures.ways

pub returns-then-to-gt-FEW-clause-least : goal.returns-then-to-gt-FEW-clause-least
returns-then-to-gt-FEW-clause-least g c = λ k d h. omega arith
