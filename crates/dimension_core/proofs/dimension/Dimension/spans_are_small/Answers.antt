use Rattle.std.proofs.Common.{arith, subst}
use Rattle.dimension_core.specs.Cumuls.{Bounds, AreBounds, last_of}
use Rattle.dimension_core.proofs.Reach.{span_cumul}
use Rattle.dimension_core.proofs.dimension.Dimension.spans_are_small.Goals as goal

pub returns : goal.returns
returns c = λ t v nodes r s known.
    let high = (span_cumul t c.args.self.now v nodes r s).high in
    let sound = subst (λ (d : Bounds). AreBounds d) c.self.view_is c.self.invariant in
    let small = (sound.ranges (last_of 0 nodes) known).1 in
    omega (arith, high, small)
