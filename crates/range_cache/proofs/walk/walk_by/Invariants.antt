use Rattle.std.proofs.Common.{◌≡◌, ◌≤◌, ◌+◌, List, ◌++◌, length, take}
use Rattle.std.specs.Prelude.{vec_len, vec_capacity}
use Rattle.dimension_core.specs.Cumuls.{last_of}
use Rattle.dimension_core.specs.Setup.{setting}
use Rattle.dimension_core.specs.Spans.{IsSpanOf}
use Rattle.dimension_core.specs.declared.range.Range.{Range}
use Rattle.range_cache.specs.Parts.{IsTrackAfter}
use Rattle.range_cache.proofs.walk.walk_by.Given as goal

-- the ranges of the customers so far follow the others, and the range is that of the last of them
abbrev pub invariant-loop-place : goal.invariant-loop-place
invariant-loop-place g l = record {
  more : (more : List Range) × (l.ranges.items ≡ l.fn.ranges.items ++ more) × (length more ≡ l.place)
      × IsTrackAfter (setting l.setup) l.fn.axis.dimension l.fn.axis.vehicle (length l.course.before.now) (l.course.before.now ++ l.course.after.now) more;
  span : IsSpanOf (setting l.setup) l.fn.axis.dimension l.fn.axis.vehicle (take (length l.course.before.now + l.place) (l.course.before.now ++ l.course.after.now)) l.range;
  last : l.from ≡ last_of 0 (take (length l.course.before.now + l.place) (l.course.before.now ++ l.course.after.now));
  small : l.range.hi ≤ 1000000000000;
  room : vec_len l.ranges + length l.course.after.now ≤ vec_capacity l.ranges + l.place;
  capacity : vec_capacity l.fn.ranges ≤ vec_capacity l.ranges;
  known : l.from ≤ (setting l.setup).customers;
  told : l.meter ≡ l.fn.meter;
}
