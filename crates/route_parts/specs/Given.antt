-- Laws of plans and spans by which a new route is judged, as the crates below state them.
use Rattle.dimension_core.specs.Laws.{SpansGoOn, SpansMeet}
use Rattle.plan_core.specs.Laws.{RoutesAreKnown}

pub record Laws : Type 0 where
  pub known : RoutesAreKnown
  pub spans : SpansGoOn
  pub meet : SpansMeet
