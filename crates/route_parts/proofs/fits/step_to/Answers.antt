use Rattle.route_parts.proofs.Carried.{after_by, asked_node, in_ranges, stop_found}
use Rattle.std.proofs.Common.{refl}
use Rattle.route_parts.proofs.fits.step_to.Goals as goal

pub answer_way-way-requires : goal.answer_way-way-requires
answer_way-way-requires g c = record {
  from = asked_node _ _ _ c.requires.sized c.requires.from;
  to = asked_node _ _ _ c.requires.sized c.requires.next;
}

pub bounds-ranges-next : goal.bounds-ranges-next
bounds-ranges-next g c = in_ranges _ _ _ c.requires.lane.ranges c.requires.next

pub range_after-requires : goal.range_after-requires
range_after-requires g c = record {
  filled = c.requires.filled;
  range = c.requires.small;
  way = c.answer_way-way.ensures.small;
  slack = c.requires.lane.little;
  cap = c.requires.lane.small;
}

pub returns : goal.returns
returns g c = λ route s last.
    stop_found c.requires.laws _ _ _ _ _ _ _ _ _ refl s last
    (after_by _ _ _ _ _ _ _ _ _ _ _ c.range_after.ensures.span c.requires.lane.ranges c.requires.lane.slack c.requires.lane.cap c.answer_way-way.ensures.answer)
