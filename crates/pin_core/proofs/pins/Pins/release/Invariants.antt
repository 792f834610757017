use Rattle.pin_core.proofs.Released.{AreLeft}
use Rattle.pin_core.proofs.pins.Pins.release.Given as goal

-- the pins of the customers touched so far are what is left of them
abbrev pub invariant-loop-touch : goal.invariant-loop-touch
invariant-loop-touch l = AreLeft l.fn.self l.self l.plan.routes l.touched l.touch-index
