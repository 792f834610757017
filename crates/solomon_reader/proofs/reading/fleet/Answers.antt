use Rattle.std.proofs.Common.{ap, map}
use Rattle.solomon_reader.proofs.Parts.{fleet_line}
use Rattle.solomon_reader.proofs.reading.fleet.Goals as goal

pub returns-clause-read : goal.returns-clause-read
returns-clause-read c =
    let next = rw c.in-Some.is at c.in_ok-line.ensures.line in
    rw (← (fleet_line _ c.in-Some.line.number c.in-Some.line.text.now _ _ _ _ next.0 next.1 (ap (map (λ w. w.now)) c.as_slice.ensures.value))) c.fleet_fields.ensures
