use Rattle.std.proofs.Common.{◌<◌, arith, refl, sym, subst, w64}
use Rattle.std.proofs.lemmas.Float.{le_right}
use Rattle.std.proofs.lemmas.Int.{to_z_pos}
use Rattle.std.specs.Float.{binary64, float_zero, ◌≤ᶠ◌}
use lib.Ieee.{of_bits, of_int}
use Rattle.travel_table.proofs.Numbers.{NotNan-mul, zero_le-of_int}
use Rattle.travel_table.proofs.travel.way_between.Goals as goal

pub whole_part-guess-requires : goal.whole_part-guess-requires
unfolding of_bits
whole_part-guess-requires c =
    let square = c.apart-square.result in
    let small : square < 9223372036854775808 = omega (arith, c.apart-square.ensures.small) in
    let from_zero = subst (λ z. float_zero ≤ᶠ of_int binary64 z) (sym (to_z_pos w64 square small)) (zero_le-of_int square) in
    NotNan-mul binary64 c.sqrt.result _ _ _ (le_right float_zero c.sqrt.result (c.sqrt.ensures.bound from_zero)) refl
