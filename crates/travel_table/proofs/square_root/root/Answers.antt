use Rattle.std.proofs.Common.{refl, sym, subst}
use Rattle.std.proofs.lemmas.Float.{le_right}
use Rattle.std.specs.Float.{Float, binary64, float_zero, ◌≤ᶠ◌}
use lib.Ieee.{of_bits}
use Rattle.travel_table.proofs.Numbers.{NotNan-mul, zero_le-of_int}
use Rattle.travel_table.proofs.square_root.root.Goals as goal

pub whole_part-requires : goal.whole_part-requires
unfolding of_bits
whole_part-requires c =
    let from_zero = subst (λ (x : Float). float_zero ≤ᶠ x) (sym c.nearest_u64_to_f64.ensures) (zero_le-of_int c.args.n) in
    NotNan-mul binary64 c.sqrt.result _ _ _ (le_right float_zero c.sqrt.result (c.sqrt.ensures.bound from_zero)) refl
