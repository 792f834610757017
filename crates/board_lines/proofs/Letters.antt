-- A word names a command of its own first letter.
use Rattle.std.proofs.Common.{◌≡◌, ℕ, Bool, true, false, cond, List, [], ◌∷◌, filter, None, refl, sym, ap, ◌∙◌, subst, arith, slice_index, length, ◌<◌}
use Rattle.std.specs.Prelude.{bytes_eq, ◌==◌, ◌||◌}
use Rattle.std.specs.List.{list_all}
use Rattle.std.specs.Map.{lookup}
use Rattle.std.proofs.lemmas.Slice.Eq.{bytes_eq-Decides}
use Rattle.std.proofs.lemmas.Bool.Decides.{nat_tests}
use Rattle.board_lines.proofs.Booleans.{and_first, and_second}
use Rattle.board_lines.specs.declared.word.Word.{Word}
use Rattle.board_lines.specs.Table.{table, first_byte, of_letter, word_of}

differ : (m n : ℕ) → (m == n) ≡ false → n ≡ m → true ≡ false
differ m n e f = grind (arith, nat_tests)

other : (w text : List ℕ) (b : Bool) → bytes_eq w text ≡ b → (first_byte text == first_byte w) ≡ false → b ≡ false
other w text true e h = differ (first_byte text) (first_byte w) h (ap (λ x. first_byte x) ((bytes_eq-Decides w text).0 e))
other w text false e h = refl

step : (w : List ℕ) (e : List ℕ × Word) (t s : List (List ℕ × Word)) (b : Bool) → (first_byte e.0 == first_byte w) ≡ b → lookup (bytes_eq w) t ≡ lookup (bytes_eq w) s → lookup (bytes_eq w) (e ∷ t) ≡ lookup (bytes_eq w) (cond b (e ∷ s) s)
step w e t s true i h = rw h refl
step w e t s false i h = rw (other w e.0 (bytes_eq w e.0) refl i) h

by_letter : (w : List ℕ) (t : List (List ℕ × Word)) → lookup (bytes_eq w) t ≡ lookup (bytes_eq w) (filter (λ e. first_byte e.0 == first_byte w) t)
by_letter w [] = refl
by_letter w (e ∷ t) = step w e t (filter (λ e. first_byte e.0 == first_byte w) t) (first_byte e.0 == first_byte w) refl (by_letter w t)

first_index : (w : List ℕ) → first_byte w ≡ slice_index w 0
first_index [] = refl
first_index (b ∷ bs) = refl

of_its_letter : (w : List ℕ) (letter : ℕ) → first_byte w ≡ letter → lookup (bytes_eq w) (of_letter letter) ≡ word_of w
unfolding word_of
of_its_letter w letter e = subst (λ (b : ℕ). lookup (bytes_eq w) (of_letter b) ≡ lookup (bytes_eq w) table) e (sym (by_letter w table))

pub named : (w : List ℕ) (letter : ℕ) → slice_index w 0 ≡ letter → lookup (bytes_eq w) (of_letter letter) ≡ word_of w
named w letter e = of_its_letter w letter (first_index w ∙ e)

-- the first letters of the commands' words
abbrev pub is_first : ℕ → Bool
is_first b = (b == 97) || ((b == 99) || ((b == 100) || ((b == 102) || ((b == 103) || ((b == 105) || ((b == 106) || ((b == 108) || ((b == 109) || ((b == 111) || ((b == 112) || ((b == 114) || ((b == 115) || ((b == 116) || ((b == 117)))))))))))))))

drop_one : (b : ℕ) (e : List ℕ × Word) (t : List (List ℕ × Word)) → (first_byte e.0 == b) ≡ false → filter (λ x. first_byte x.0 == b) t ≡ [] → filter (λ x. first_byte x.0 == b) (e ∷ t) ≡ []
drop_one b e t f h = rw f h

unlike : (a b : ℕ) → is_first a ≡ true → is_first b ≡ false → (a == b) ≡ false
unlike a b e f = elim (a == b) as (λ t. (a == b) ≡ t → t ≡ false) [
  | true ↦ λ same. grind (arith, nat_tests, e, f, same)
  | false ↦ λ same. refl
] refl

none_left : (b : ℕ) → is_first b ≡ false → (t : List (List ℕ × Word)) → list_all (λ e. is_first (first_byte e.0)) t ≡ true → filter (λ e. first_byte e.0 == b) t ≡ []
none_left b h [] e = refl
none_left b h (x ∷ t) e =
    drop_one b x t (unlike (first_byte x.0) b (and_first (is_first (first_byte x.0)) (list_all (λ e. is_first (first_byte e.0)) t) e) h)
    (none_left b h t (and_second (is_first (first_byte x.0)) (list_all (λ e. is_first (first_byte e.0)) t) e))

differs : (m n : ℕ) → (m ≡ n → ⊥) → (m == n) ≡ false
differs m n h = grind (arith, nat_tests, h)

no_first : (w : List ℕ) → is_first (slice_index w 0) ≡ false → None ≡ word_of w
no_first w h =
    let none : is_first (first_byte w) ≡ false = ap is_first (first_index w) ∙ h in
    sym (ap (lookup (bytes_eq w)) (none_left (first_byte w) none table refl)) ∙ of_its_letter w (first_byte w) refl

-- no command has a word of another first letter
pub unnamed : (w : List ℕ) → (slice_index w 0 ≡ 97 → ⊥) → (slice_index w 0 ≡ 99 → ⊥) → (slice_index w 0 ≡ 100 → ⊥) → (slice_index w 0 ≡ 102 → ⊥) → (slice_index w 0 ≡ 103 → ⊥) → (slice_index w 0 ≡ 105 → ⊥) → (slice_index w 0 ≡ 106 → ⊥) → (slice_index w 0 ≡ 108 → ⊥) → (slice_index w 0 ≡ 109 → ⊥) → (slice_index w 0 ≡ 111 → ⊥) → (slice_index w 0 ≡ 112 → ⊥) → (slice_index w 0 ≡ 114 → ⊥) → (slice_index w 0 ≡ 115 → ⊥) → (slice_index w 0 ≡ 116 → ⊥) → (slice_index w 0 ≡ 117 → ⊥) → None ≡ word_of w
unnamed w h97 h99 h100 h102 h103 h105 h106 h108 h109 h111 h112 h114 h115 h116 h117 =
    no_first w (rw (differs (slice_index w 0) 97 h97) (rw (differs (slice_index w 0) 99 h99) (rw (differs (slice_index w 0) 100 h100) (rw (differs (slice_index w 0) 102 h102) (rw (differs (slice_index w 0) 103 h103) (rw (differs (slice_index w 0) 105 h105) (rw (differs (slice_index w 0) 106 h106) (rw (differs (slice_index w 0) 108 h108) (rw (differs (slice_index w 0) 109 h109) (rw (differs (slice_index w 0) 111 h111) (rw (differs (slice_index w 0) 112 h112) (rw (differs (slice_index w 0) 114 h114) (rw (differs (slice_index w 0) 115 h115) (rw (differs (slice_index w 0) 116 h116) (rw (differs (slice_index w 0) 117 h117) refl)))))))))))))))

-- nor does a word without letters name one
pub unnamed_empty : (w : List ℕ) → length w < 1 → None ≡ word_of w
unnamed_empty [] h = no_first [] refl
unnamed_empty (b ∷ bs) h = absurd (omega (arith, h))
