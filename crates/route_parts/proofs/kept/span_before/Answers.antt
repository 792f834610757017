use Rattle.route_parts.proofs.kept.span_before.Goals as goal

pub returns-in-None : goal.returns-in-None
returns-in-None g c = λ rest s. c.requires.laws.meet.none _ _ _ _ _ rest (rw c.in-None.is at s)

pub returns-in-Some : goal.returns-in-Some
returns-in-Some g c = λ rest s. c.requires.laws.meet.push _ _ _ _ _ rest _ _ (rw c.in-Some.is at s) c.precede.ensures.span

pub precede-requires : goal.precede-requires
precede-requires g c = record {
  served = c.requires.served;
  filled = rw c.in-Some.is at c.requires.filled;
  from = c.requires.node;
  to = c.requires.next;
  low = c.requires.low;
  high = c.requires.high;
}
