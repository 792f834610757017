use Rattle.way_costs.proofs.table.fill_by.Goals as goal

pub fill_rows-requires : goal.fill_rows-requires
fill_rows-requires g c = record {
  answers = c.requires.answers;
  nodes = c.requires.nodes;
  known = c.known_ways.ensures;
  across = c.is_read_across.ensures;
  from = c.requires.from;
  to = c.requires.to;
  some = c.requires.some;
  short = c.requires.short;
  room = c.requires.room;
}

pub returns : goal.returns
returns g c = record { hops = c.fill_rows.ensures.hops; floors = c.fill_rows.ensures.floors }
