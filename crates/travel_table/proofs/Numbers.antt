-- Which results are no NaN: a rounded fraction, a sum with a finite number, and a product with a finite number other than 0.
use Rattle.std.proofs.Common.{◌≡◌, ℕ, zero, suc, ℤ, pos, Bool, true, false, cond, eqb, refl, subst, arith, pow_pos}
use Rattle.std.specs.Float.{Float, Format, binary64, nan, inf, fin, float_zero, ◌≤ᶠ◌, NotNan}
use lib.Ieee.{odd, units, round, sum, add, mul, of_int, is_nan, unlike}
use lib.Ieee.Order.{round_mono}

NotNan-cond : (b : Bool) (x y : Float) → NotNan x → NotNan y → NotNan (cond b x y)
NotNan-cond true x y p q = p
NotNan-cond false x y p q = q

NotNan-odd : (d : ℕ) (s : Bool) (q k l : ℕ) → NotNan (odd d s q k l)
unfolding odd is_nan
NotNan-odd d s zero k l = tt
NotNan-odd d s (suc q) k l = tt

NotNan-inf : (s : Bool) → NotNan (inf s)
unfolding is_nan
NotNan-inf s = tt

NotNan-units : (f : Format) (s : Bool) (q k : ℕ) → NotNan (units f s q k)
unfolding units
NotNan-units f s q k = search (NotNan-cond, NotNan-odd, NotNan-inf)

NotNan-round : (f : Format) (s : Bool) (a b : ℕ) → NotNan (round f s a b)
unfolding round
NotNan-round f s a b = NotNan-units f s _ _

NotNan-sum : (f : Format) (s : Bool) (a : ℕ) (t : Bool) (b c : ℕ) → NotNan (sum f s a t b c)
unfolding sum
NotNan-sum f s a t b c = search (NotNan-cond, NotNan-round)

pub NotNan-add : (f : Format) (x : Float) (t : Bool) (n : ℕ) (d : ℤ) → NotNan x → NotNan (add f x (fin t n d))
unfolding add
NotNan-add f nan t n d p = p
NotNan-add f (inf s) t n d p = p
NotNan-add f (fin s m e) t n d p = NotNan-sum f s _ t _ _

pub NotNan-mul : (f : Format) (x : Float) (t : Bool) (n : ℕ) (d : ℤ) → NotNan x → eqb n 0 ≡ false → NotNan (mul f x (fin t n d))
unfolding mul
NotNan-mul f nan t n d p other = p
NotNan-mul f (inf s) t n d p other = rw other (NotNan-inf (unlike s t))
NotNan-mul f (fin s m e) t n d p other = NotNan-round f _ _ _

round-zero : round binary64 false 0 1 ≡ float_zero
unfolding round
round-zero = refl

pub zero_le-of_int : (n : ℕ) → float_zero ≤ᶠ of_int binary64 (pos n)
unfolding of_int
zero_le-of_int n = subst (λ (z : Float). z ≤ᶠ round binary64 false n 1) round-zero (round_mono binary64 0 1 n 1 (pow_pos 0) (pow_pos 0) (omega arith))
