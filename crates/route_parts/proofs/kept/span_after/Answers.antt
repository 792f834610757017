use Rattle.std.proofs.Common.{refl, [], ◌∷◌}
use Rattle.route_parts.proofs.Carried.{stop_found}
use Rattle.route_parts.proofs.kept.span_after.Goals as goal

pub returns-in-None : goal.returns-in-None
returns-in-None g c = λ done s e. c.requires.laws.spans.none _ _ _ done (c.args.node ∷ []) (rw c.in-None.is at s)

pub returns-in-Some : goal.returns-in-Some
returns-in-Some g c = λ done s e. stop_found c.requires.laws _ _ _ done done _ _ _ _ refl (rw c.in-Some.is at s) e c.extend.ensures.span

pub extend-requires : goal.extend-requires
extend-requires g c = record {
  served = c.requires.served;
  from = c.requires.from;
  to = c.requires.node;
  low = c.requires.low;
  high = c.requires.high;
}
