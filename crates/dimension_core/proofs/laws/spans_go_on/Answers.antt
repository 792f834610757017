use Rattle.dimension_core.proofs.Reach.{span_start, span_push, span_more, last_of-push_at, span_none, span_early, bounds_found}
use Rattle.dimension_core.proofs.laws.spans_go_on.Goals as goal

pub returns : goal.returns
returns c = record {
  start = span_start;
  push = span_push;
  next = span_more;
  last = last_of-push_at;
  none = span_none;
  early = span_early;
  bounds = bounds_found;
}
