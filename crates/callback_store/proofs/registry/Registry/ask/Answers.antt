use Rattle.std.proofs.Common.{◌≡◌, ◌∙◌, ap}
use Rattle.callback_store.specs.Registry.{tables}
use Rattle.callback_store.specs.Tables.{Table, slot_table, pair_table, node_table, table_at, entry}
use Rattle.callback_store.proofs.Slots.{kept_at, kept_below}
use Rattle.callback_store.proofs.registry.Registry.ask.Goals as goal

pub ask-requires-clause-from : goal.ask-requires-clause-from
ask-requires-clause-from g c =
    let low = kept_below slot_table _ _ _ _ c.args.self.now.tables c.id.view_is c.requires.registered c.index.ensures in
    rw c.in-Pair.is at low c.args.i c.requires.from

pub ask-requires-clause-to : goal.ask-requires-clause-to
ask-requires-clause-to g c =
    let low = kept_below slot_table _ _ _ _ c.args.self.now.tables c.id.view_is c.requires.registered c.index.ensures in
    rw c.in-Pair.is at low c.args.j c.requires.to

pub ask-requires-in-Node : goal.ask-requires-in-Node
ask-requires-in-Node g c =
    let low = kept_below slot_table _ _ _ _ c.args.self.now.tables c.id.view_is c.requires.registered c.index.ensures in
    rw c.in-Node.is at low c.args.i c.requires.from

pub returns-in-Pair-clause-answer : goal.returns-in-Pair-clause-answer
returns-in-Pair-clause-answer g c =
    let kept = kept_at slot_table _ _ _ _ c.id.view_is c.requires.registered c.index.ensures in
    let table : pair_table c.in-Pair.transit ≡ table_at (tables c.args.self.now) c.args.id = rw c.in-Pair.is at kept in
    c.ask.ensures.answer ∙ ap (λ (t : Table). entry t c.args.i c.args.j) table

pub returns-in-Node-clause-answer : goal.returns-in-Node-clause-answer
returns-in-Node-clause-answer g c =
    let kept = kept_at slot_table _ _ _ _ c.id.view_is c.requires.registered c.index.ensures in
    let table : node_table c.in-Node.unary ≡ table_at (tables c.args.self.now) c.args.id = rw c.in-Node.is at kept in
    c.ask-in-Node.ensures.answer ∙ ap (λ (t : Table). entry t c.args.i c.args.j) table

pub ask-requires-in-Listed-clause-from : goal.ask-requires-in-Listed-clause-from
ask-requires-in-Listed-clause-from g c =
    let low = kept_below slot_table _ _ _ _ c.args.self.now.tables c.id.view_is c.requires.registered c.index.ensures in
    rw c.in-Listed.is at low c.args.i c.requires.from

pub ask-requires-in-Listed-clause-to : goal.ask-requires-in-Listed-clause-to
ask-requires-in-Listed-clause-to g c =
    let low = kept_below slot_table _ _ _ _ c.args.self.now.tables c.id.view_is c.requires.registered c.index.ensures in
    rw c.in-Listed.is at low c.args.j c.requires.to

pub ask-requires-in-Values : goal.ask-requires-in-Values
ask-requires-in-Values g c =
    let low = kept_below slot_table _ _ _ _ c.args.self.now.tables c.id.view_is c.requires.registered c.index.ensures in
    rw c.in-Values.is at low c.args.i c.requires.from

pub ask-requires-in-Stayed-clause-from : goal.ask-requires-in-Stayed-clause-from
ask-requires-in-Stayed-clause-from g c =
    let low = kept_below slot_table _ _ _ _ c.args.self.now.tables c.id.view_is c.requires.registered c.index.ensures in
    rw c.in-Stayed.is at low c.args.i c.requires.from

pub ask-requires-in-Stayed-clause-to : goal.ask-requires-in-Stayed-clause-to
ask-requires-in-Stayed-clause-to g c =
    let low = kept_below slot_table _ _ _ _ c.args.self.now.tables c.id.view_is c.requires.registered c.index.ensures in
    rw c.in-Stayed.is at low c.args.j c.requires.to
