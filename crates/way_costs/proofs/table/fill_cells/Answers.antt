use Rattle.dimension_core.specs.Setup.{setting}
use Rattle.way_costs.proofs.Cells.{id_known, size_asked, table_asked}
use Rattle.way_costs.proofs.table.fill_cells.Goals as goal

pub callback-requires : goal.callback-requires
callback-requires g c = record { registered = id_known (setting c.args.setup.now) _ _ c.registry.ensures.value c.cost.ensures.registered }

pub fill_by-requires : goal.fill_by-requires
fill_by-requires g c = record {
  answers = table_asked (setting c.args.setup.now) _ _ _ c.registry.ensures.value c.cost.ensures.value (rw c.in-Pair.is at c.callback.ensures.table);
  nodes = size_asked (setting c.args.setup.now) _ _ c.registry.ensures.value c.registry.ensures.sound (rw c.in-Pair.is at c.callback.ensures.nodes);
  from = c.requires.from;
  to = c.requires.to;
  some = c.requires.some;
  short = c.requires.short;
  room = c.requires.room;
}

pub returns-in-Pair : goal.returns-in-Pair
returns-in-Pair g c = record { hops = c.fill_by.ensures.hops; floors = c.fill_by.ensures.floors }

pub fill_by-requires-in-Node : goal.fill_by-requires-in-Node
fill_by-requires-in-Node g c = record {
  answers = table_asked (setting c.args.setup.now) _ _ _ c.registry.ensures.value c.cost.ensures.value (rw c.in-Node.is at c.callback.ensures.table);
  nodes = size_asked (setting c.args.setup.now) _ _ c.registry.ensures.value c.registry.ensures.sound (rw c.in-Node.is at c.callback.ensures.nodes);
  from = c.requires.from;
  to = c.requires.to;
  some = c.requires.some;
  short = c.requires.short;
  room = c.requires.room;
}

pub returns-in-Node : goal.returns-in-Node
returns-in-Node g c = record { hops = c.fill_by-in-Node.ensures.hops; floors = c.fill_by-in-Node.ensures.floors }

pub fill_by-requires-in-Listed : goal.fill_by-requires-in-Listed
fill_by-requires-in-Listed g c = record {
  answers = table_asked (setting c.args.setup.now) _ _ _ c.registry.ensures.value c.cost.ensures.value (rw c.in-Listed.is at c.callback.ensures.table);
  nodes = size_asked (setting c.args.setup.now) _ _ c.registry.ensures.value c.registry.ensures.sound (rw c.in-Listed.is at c.callback.ensures.nodes);
  from = c.requires.from;
  to = c.requires.to;
  some = c.requires.some;
  short = c.requires.short;
  room = c.requires.room;
}

pub returns-in-Listed : goal.returns-in-Listed
returns-in-Listed g c = record { hops = c.fill_by-in-Listed.ensures.hops; floors = c.fill_by-in-Listed.ensures.floors }

pub fill_by-requires-in-Values : goal.fill_by-requires-in-Values
fill_by-requires-in-Values g c = record {
  answers = table_asked (setting c.args.setup.now) _ _ _ c.registry.ensures.value c.cost.ensures.value (rw c.in-Values.is at c.callback.ensures.table);
  nodes = size_asked (setting c.args.setup.now) _ _ c.registry.ensures.value c.registry.ensures.sound (rw c.in-Values.is at c.callback.ensures.nodes);
  from = c.requires.from;
  to = c.requires.to;
  some = c.requires.some;
  short = c.requires.short;
  room = c.requires.room;
}

pub returns-in-Values : goal.returns-in-Values
returns-in-Values g c = record { hops = c.fill_by-in-Values.ensures.hops; floors = c.fill_by-in-Values.ensures.floors }

pub fill_by-requires-in-Stayed : goal.fill_by-requires-in-Stayed
fill_by-requires-in-Stayed g c = record {
  answers = table_asked (setting c.args.setup.now) _ _ _ c.registry.ensures.value c.cost.ensures.value (rw c.in-Stayed.is at c.callback.ensures.table);
  nodes = size_asked (setting c.args.setup.now) _ _ c.registry.ensures.value c.registry.ensures.sound (rw c.in-Stayed.is at c.callback.ensures.nodes);
  from = c.requires.from;
  to = c.requires.to;
  some = c.requires.some;
  short = c.requires.short;
  room = c.requires.room;
}

pub returns-in-Stayed : goal.returns-in-Stayed
returns-in-Stayed g c = record { hops = c.fill_by-in-Stayed.ensures.hops; floors = c.fill_by-in-Stayed.ensures.floors }
