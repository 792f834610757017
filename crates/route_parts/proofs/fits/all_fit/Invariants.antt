use Rattle.std.proofs.Common.{ℕ, ◌<◌}
use Rattle.dimension_core.specs.Setup.{setting}
use Rattle.dimension_core.specs.Feasible.{FitsIn}
use Rattle.route_parts.specs.Parts.{route_of}
use Rattle.route_parts.proofs.fits.all_fit.Given as goal

-- the route is in bounds in each dimension so far
abbrev pub invariant-loop-k : goal.invariant-loop-k
invariant-loop-k g l = (n : ℕ) → n < l.k → FitsIn (setting l.setup) n l.vehicle (route_of l.parts)
