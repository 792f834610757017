use Rattle.std.proofs.Common.{arith}
use Rattle.route_parts.proofs.kept.Kept.none.Goals as goal

pub returns : goal.returns
returns g = λ s routes v w. record {
  ahead = λ h. let e = g.none.ensures in absurd (omega arith);
  behind = λ h. let e = g.none-2.ensures in absurd (omega arith);
  over = λ o h. let e = g.none-3.ensures in absurd (omega arith);
}
