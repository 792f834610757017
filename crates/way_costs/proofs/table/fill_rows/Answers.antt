use Rattle.std.proofs.Common.{arith, ◌-◌, ◌∙◌, if◌then◌else◌, length, refl}
use Rattle.callback_store.specs.Tables.{table_at}
use Rattle.dimension_core.specs.Setup.{setting}
use Rattle.way_costs.proofs.Cells.{begin_fits, begun_fits, cell_room, part_known, row_in, rows_floors, rows_hops, rows_more, rows_room}
use Rattle.way_costs.proofs.table.fill_rows.Goals as goal

pub overflow_mul-i : goal.overflow_mul-i
overflow_mul-i g c = begin_fits c.first_row-first.result (length c.args.from.now) (length c.args.to.now) c.loop-i.i c.first_row-first.ensures.small c.requires.short.0 c.requires.short.1 c.loop-i-test.true

pub overflow_add-i : goal.overflow_add-i
overflow_add-i g c =
    begun_fits c.first_row-first.result (length c.args.from.now) (length c.args.to.now) c.loop-i.i c.first_column-column.result c.first_row-first.ensures.small c.requires.short.0 c.requires.short.1
    c.loop-i-test.true c.first_column-column.ensures.small

pub bounds-from-i : goal.bounds-from-i
bounds-from-i g c = row_in c.first_row-first.result (length c.args.from.now) c.loop-i.i c.first_row-first.ensures.small c.requires.some.0 c.loop-i-test.true

pub fill_at-least-requires-clause-stop : goal.fill_at-least-requires-clause-stop
fill_at-least-requires-clause-stop g c =
    c.requires.from c.loop-i.i 0 (row_in c.first_row-first.result (length c.args.from.now) c.loop-i.i c.first_row-first.ensures.small c.requires.some.0 c.loop-i-test.true)

pub fill_at-least-requires-clause-to : goal.fill_at-least-requires-clause-to
fill_at-least-requires-clause-to g c = part_known (setting c.args.setup.now).customers (length c.args.to.now - 1) c.first_column-column.result c.args.to.now c.all_but_one-asked.result.now c.all_but_one-asked.ensures c.requires.to

pub returns-clause-hops : goal.returns-clause-hops
returns-clause-hops g c =
    let s = setting c.args.setup.now in
    rows_hops c.args.asking.now.turned (table_at s.tables s.cost) c.args.from.now c.args.to.now c.loop-i.cells (if c.args.asking.now.turned then 1 else 0) (if c.args.asking.now.turned then 0 else 1) c.first_row-first.result c.first_column-column.result c.loop-i.i
    c.first_row-first.ensures.value c.first_column-column.ensures.value c.loop-i-test.false c.loop-i.invariant.filled

pub returns-clause-floors : goal.returns-clause-floors
returns-clause-floors g c =
    rows_floors c.args.from.now c.args.to.now c.loop-i.cells (if c.args.asking.now.turned then 1 else 0) (if c.args.asking.now.turned then 0 else 1) c.first_row-first.result c.first_column-column.result c.spare_column-spare.result c.loop-i.i
    c.first_row-first.ensures.value c.first_column-column.ensures.value c.spare_column-spare.ensures.value c.loop-i-test.false c.loop-i.invariant.floored

pub spare_column-spare-requires-clause-column : goal.spare_column-spare-requires-clause-column
spare_column-spare-requires-clause-column g c = c.first_column-column.ensures.small

pub spare_column-spare-requires-clause-some : goal.spare_column-spare-requires-clause-some
spare_column-spare-requires-clause-some g c = c.requires.some.1

pub all_but_one-asked-requires-clause-begin : goal.all_but_one-asked-requires-clause-begin
all_but_one-asked-requires-clause-begin g c = c.first_column-column.ensures.small

pub all_but_one-asked-requires-clause-some : goal.all_but_one-asked-requires-clause-some
all_but_one-asked-requires-clause-some g c = c.requires.some.1

pub loop-i-init : goal.loop-i-init
loop-i-init g c = record {
  filled = record { whole = c.requires.room; hops = λ a b la ha. absurd (omega arith) };
  floored = record { floors = λ a b la ha. absurd (omega arith) };
}

pub fill_at-least-requires-clause-answers : goal.fill_at-least-requires-clause-answers
fill_at-least-requires-clause-answers g c = c.requires.answers

pub fill_at-least-requires-clause-nodes : goal.fill_at-least-requires-clause-nodes
fill_at-least-requires-clause-nodes g c = c.requires.nodes

pub fill_at-least-requires-clause-known : goal.fill_at-least-requires-clause-known
fill_at-least-requires-clause-known g c = c.requires.known

pub fill_at-least-requires-clause-across : goal.fill_at-least-requires-clause-across
fill_at-least-requires-clause-across g c = c.requires.across

pub fill_at-least-requires-clause-room : goal.fill_at-least-requires-clause-room
fill_at-least-requires-clause-room g c =
    rows_room c.first_row-first.result c.first_column-column.result c.loop-i.i c.args.from.now c.args.to.now c.all_but_one-asked.result.now c.loop-i.cells c.loop-i.cells c.first_row-first.ensures.small c.first_column-column.ensures.small
    c.requires.some.0 c.requires.some.1 c.loop-i-test.true c.all_but_one-asked.ensures refl c.loop-i.invariant.filled.whole

pub bounds-cells-i : goal.bounds-cells-i
bounds-cells-i g c =
    cell_room c.first_row-first.result c.loop-i.i c.spare_column-spare.result (length c.fill_at-least.new.cells) c.args.from.now c.args.to.now c.first_row-first.ensures.small c.requires.some.0
    c.loop-i-test.true c.spare_column-spare.ensures.small (c.fill_at-least.ensures.sized ∙ c.loop-i.invariant.filled.whole)

pub loop-i-preserved : goal.loop-i-preserved
loop-i-preserved g c =
    let t = table_at (setting c.args.setup.now).tables (setting c.args.setup.now).cost in
    let rows =
    rows_more c.args.asking.now.turned t c.args.from.now c.args.to.now c.all_but_one-asked.result.now c.loop-i.cells c.loop-i.cells c.fill_at-least.new.cells c.fill_at-least.new.cells
    c.first_row-first.result c.first_column-column.result c.loop-i.i c.spare_column-spare.result c.fill_at-least.result
    c.first_row-first.ensures.small c.first_column-column.ensures.small c.loop-i-test.true c.requires.some.0 c.requires.some.1 c.spare_column-spare.ensures.small c.spare_column-spare.ensures.apart
    c.all_but_one-asked.ensures refl c.loop-i.invariant.filled c.loop-i.invariant.floored c.fill_at-least.ensures.sized c.fill_at-least.ensures.ways c.fill_at-least.ensures.kept c.fill_at-least.ensures.least
    refl in
    record { filled = rows.0; floored = rows.1 }
