use Rattle.route_parts.proofs.fits.carry_way.Goals as goal

pub carry_back-requires : goal.carry_back-requires
carry_back-requires g c = record {
  laws = c.requires.laws;
  lane = c.requires.lane;
  sized = c.requires.sized;
  filled = c.requires.filled;
  small = c.requires.small;
  from = c.requires.from;
  known = c.requires.known;
}

pub carry_on-requires : goal.carry_on-requires
carry_on-requires g c = record {
  laws = c.requires.laws;
  lane = c.requires.lane;
  sized = c.requires.sized;
  filled = c.requires.filled;
  small = c.requires.small;
  from = c.requires.from;
  known = c.requires.known;
}

pub returns-then-turned : goal.returns-then-turned
returns-then-turned g c = record {
  span = rw c.if-turned.true c.carry_back.ensures.span;
  filled = c.carry_back.ensures.filled;
  small = c.carry_back.ensures.small;
  known = c.carry_back.ensures.known;
}

pub returns-else-turned : goal.returns-else-turned
returns-else-turned g c = record {
  span = rw c.if-turned.false c.carry_on.ensures.span;
  filled = c.carry_on.ensures.filled;
  small = c.carry_on.ensures.small;
  known = c.carry_on.ensures.known;
}
