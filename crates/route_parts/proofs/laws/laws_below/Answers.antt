use Rattle.route_parts.proofs.laws.laws_below.Goals as goal

pub returns : goal.returns
returns c = record {
  known = c.routes_are_known.ensures;
  spans = c.spans_go_on.ensures;
  meet = c.spans_meet.ensures;
}
