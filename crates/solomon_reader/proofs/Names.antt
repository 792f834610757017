-- A name is text.
use Rattle.std.proofs.Common.{◌≡◌, ℕ, zero, suc, ◌<◌, true, List, [], ◌∷◌, length, get_or, arith}
use Rattle.std.specs.Prelude.{nat_le, IsUtf8}
use Rattle.std.specs.List.{list_all}
use Rattle.std.proofs.lemmas.Str.{IsUtf8-from_ascii}
use Rattle.std.proofs.lemmas.Bool.Decides.{nat_tests}
use Rattle.solomon_reader.specs.Fields.{is_name_byte, is_name}
use Rattle.solomon_reader.proofs.Booleans.{both}

small : (b : ℕ) → is_name_byte b ≡ true → b < 128
small b e = let h = both (nat_le 32 b) (nat_le b 126) e in let l = h.1 in grind (arith, nat_tests)

all_small : (bs : List ℕ) → list_all is_name_byte bs ≡ true → (i : ℕ) → get_or bs i 0 < 128
all_small [] e i = omega arith
all_small (b ∷ bs) e zero = small b (both (is_name_byte b) (list_all is_name_byte bs) e).0
all_small (b ∷ bs) e (suc i) = all_small bs (both (is_name_byte b) (list_all is_name_byte bs) e).1 i

pub name_is_text : (name : List ℕ) → is_name name ≡ true → IsUtf8 name
name_is_text name e =
    let a = both (nat_le 1 (length name)) _ e in
    let b = both (nat_le (length name) 64) (list_all is_name_byte name) a.1 in
    IsUtf8-from_ascii name (all_small name b.1)
