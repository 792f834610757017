use Rattle.callback_store.specs.Tables.{Table}
use Rattle.dimension_core.specs.Setup.{setting}
use Rattle.std.proofs.Common.{subst}
use Rattle.way_costs.specs.Ways.{AreEdges}
use Rattle.way_costs.proofs.Cells.{id_known, nodes_asked, size_asked, table_asked}
use Rattle.way_costs.proofs.table.ask_edges.Goals as goal

pub callback-requires : goal.callback-requires
callback-requires g c = record { registered = id_known (setting c.args.setup.now) _ _ c.registry.ensures.value c.cost.ensures.registered }

pub edges_by-requires : goal.edges_by-requires
edges_by-requires g c = record {
  known = nodes_asked _ _ c.args.stops.now (size_asked (setting c.args.setup.now) _ _ c.registry.ensures.value c.registry.ensures.sound (rw c.in-Pair.is at c.callback.ensures.nodes)) c.requires.known;
  room = c.requires.room;
}

pub returns-in-Pair : goal.returns-in-Pair
returns-in-Pair g c =
    subst (λ (t : Table). AreEdges t c.args.stops.now c.edges_by.new.edges)
    (table_asked (setting c.args.setup.now) _ _ _ c.registry.ensures.value c.cost.ensures.value (rw c.in-Pair.is at c.callback.ensures.table)) c.edges_by.ensures

pub edges_by-requires-in-Node : goal.edges_by-requires-in-Node
edges_by-requires-in-Node g c = record {
  known = nodes_asked _ _ c.args.stops.now (size_asked (setting c.args.setup.now) _ _ c.registry.ensures.value c.registry.ensures.sound (rw c.in-Node.is at c.callback.ensures.nodes)) c.requires.known;
  room = c.requires.room;
}

pub returns-in-Node : goal.returns-in-Node
returns-in-Node g c =
    subst (λ (t : Table). AreEdges t c.args.stops.now c.edges_by-in-Node.new.edges)
    (table_asked (setting c.args.setup.now) _ _ _ c.registry.ensures.value c.cost.ensures.value (rw c.in-Node.is at c.callback.ensures.table)) c.edges_by-in-Node.ensures

pub edges_by-requires-in-Listed : goal.edges_by-requires-in-Listed
edges_by-requires-in-Listed g c = record {
  known = nodes_asked _ _ c.args.stops.now (size_asked (setting c.args.setup.now) _ _ c.registry.ensures.value c.registry.ensures.sound (rw c.in-Listed.is at c.callback.ensures.nodes)) c.requires.known;
  room = c.requires.room;
}

pub returns-in-Listed : goal.returns-in-Listed
returns-in-Listed g c =
    subst (λ (t : Table). AreEdges t c.args.stops.now c.edges_by-in-Listed.new.edges)
    (table_asked (setting c.args.setup.now) _ _ _ c.registry.ensures.value c.cost.ensures.value (rw c.in-Listed.is at c.callback.ensures.table)) c.edges_by-in-Listed.ensures

pub edges_by-requires-in-Values : goal.edges_by-requires-in-Values
edges_by-requires-in-Values g c = record {
  known = nodes_asked _ _ c.args.stops.now (size_asked (setting c.args.setup.now) _ _ c.registry.ensures.value c.registry.ensures.sound (rw c.in-Values.is at c.callback.ensures.nodes)) c.requires.known;
  room = c.requires.room;
}

pub returns-in-Values : goal.returns-in-Values
returns-in-Values g c =
    subst (λ (t : Table). AreEdges t c.args.stops.now c.edges_by-in-Values.new.edges)
    (table_asked (setting c.args.setup.now) _ _ _ c.registry.ensures.value c.cost.ensures.value (rw c.in-Values.is at c.callback.ensures.table)) c.edges_by-in-Values.ensures

pub edges_by-requires-in-Stayed : goal.edges_by-requires-in-Stayed
edges_by-requires-in-Stayed g c = record {
  known = nodes_asked _ _ c.args.stops.now (size_asked (setting c.args.setup.now) _ _ c.registry.ensures.value c.registry.ensures.sound (rw c.in-Stayed.is at c.callback.ensures.nodes)) c.requires.known;
  room = c.requires.room;
}

pub returns-in-Stayed : goal.returns-in-Stayed
returns-in-Stayed g c =
    subst (λ (t : Table). AreEdges t c.args.stops.now c.edges_by-in-Stayed.new.edges)
    (table_asked (setting c.args.setup.now) _ _ _ c.registry.ensures.value c.cost.ensures.value (rw c.in-Stayed.is at c.callback.ensures.table)) c.edges_by-in-Stayed.ensures
