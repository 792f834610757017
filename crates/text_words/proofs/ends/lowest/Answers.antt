use Rattle.std.proofs.Common.{arith, w64}
use Rattle.std.proofs.lemmas.Nat.Bits.{bit_at-trailing_zeros}
use Rattle.text_words.proofs.ends.lowest.Goals as goal

pub returns-clause-set : goal.returns-clause-set
returns-clause-set c =
    let h = bit_at-trailing_zeros w64 c.args.bits (omega (arith, c.requires)) c.ranges.bits.fits in
    h.1

pub returns-clause-below : goal.returns-clause-below
returns-clause-below c =
    let h = bit_at-trailing_zeros w64 c.args.bits (omega (arith, c.requires)) c.ranges.bits.fits in
    h.2
