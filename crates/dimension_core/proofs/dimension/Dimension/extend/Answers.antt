use Rattle.std.proofs.Common.{◌≤◌, subst, arith}
use Rattle.dimension_core.specs.declared.range.Range.{Range}
use Rattle.dimension_core.proofs.Extended.{extended_span}
use Rattle.dimension_core.proofs.dimension.Dimension.extend.Goals as goal

pub returns-then-lo-hi-clause-span : goal.returns-then-lo-hi-clause-span
returns-then-lo-hi-clause-span g c =
    let node = c.range-node.ensures in
    let small = subst (λ (r : Range). r.hi ≤ 1000000000000) node.value node.small in
    extended_span _ _ _ _ _ _ _ (omega arith) small (cc) (cc) (omega arith)
