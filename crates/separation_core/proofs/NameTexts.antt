-- A name is a text.
use Rattle.std.proofs.Common.{◌≡◌, ℕ, zero, suc, ◌<◌, Bool, true, false, List, [], ◌∷◌, length, refl, arith}
use Rattle.std.specs.Prelude.{slice_index, ◌&&◌, nat_le}
use Rattle.std.specs.List.{list_all}
use Rattle.std.specs.Str.{IsUtf8}
use Rattle.std.proofs.lemmas.Str.{IsUtf8-from_ascii}
use Rattle.std.proofs.lemmas.Bool.Decides.{nat_tests}
use Rattle.separation_core.specs.Names.{is_name, is_name_byte}

and_first : (a b : Bool) → (a && b) ≡ true → a ≡ true
and_first true b e = refl
and_first false b e = e

and_second : (a b : Bool) → (a && b) ≡ true → b ≡ true
and_second true b e = e
and_second false b e = absurd (cc)

small : (b : ℕ) → is_name_byte b ≡ true → b < 128
small b e = grind (arith, nat_tests)

ascii : (w : List ℕ) → list_all is_name_byte w ≡ true → (i : ℕ) → slice_index w i < 128
ascii [] e i = omega arith
ascii (b ∷ w) e zero = small b (and_first _ _ e)
ascii (b ∷ w) e (suc i) = ascii w (and_second _ _ e) i

pub name_is_text : (w : List ℕ) → is_name w ≡ true → IsUtf8 w
name_is_text w e = IsUtf8-from_ascii w (ascii w (and_second (nat_le (length w) 32) (list_all is_name_byte w) (and_second (nat_le 1 (length w)) (nat_le (length w) 32 && list_all is_name_byte w) e)))
