use Rattle.std.proofs.Common.{◌^◌, ◌*◌, ◌%◌, bit_and, arith, ap, w64}
use Rattle.std.specs.Int.{bit_at, bit_not}
use Rattle.std.proofs.lemmas.Nat.Bits.{bit_at_clear_other, bit_at_clear_same, bit_at_and}
use Rattle.text_words.proofs.ends.without.Goals as goal

pub returns-clause-kept : goal.returns-clause-kept
returns-clause-kept c k low apart = bit_at_clear_other w64 c.args.bits c.args.bit c.requires.bound k low apart

pub returns-clause-fewer : goal.returns-clause-fewer
returns-clause-fewer c k set = (
  omega (arith, bit_at_and c.args.bits (bit_not w64 (1 * 2 ^ c.args.bit % 2 ^ 64)) k),
  λ same. omega (arith, set, bit_at_clear_same w64 c.args.bits c.args.bit c.requires.bound, ap (bit_at (bit_and c.args.bits (bit_not w64 (1 * 2 ^ c.args.bit % 2 ^ 64)))) same),
)
