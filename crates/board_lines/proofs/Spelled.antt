-- Numbers, names and commands as words.
use Rattle.std.proofs.Common.{◌≡◌, ℕ, ◌^◌, ◌<◌, ◌≤◌, Bool, true, false, eqb, List, [], ◌∷◌, ◌++◌, length, get_or, refl, ap, ◌∙◌, arith}
use Rattle.std.specs.Prelude.{All, ◌&&◌, nat_lt, nat_le}
use Rattle.std.specs.List.{slice_split, AllByRecursion, list_all}
use Rattle.std.specs.Fmt.{decimal}
use Rattle.std.specs.Int.{IsInRange}
use Rattle.std.specs.Str.{all_ascii_digits}
use Rattle.std.specs.Str.Parse.{digits_value, AllDigits}
use Rattle.std.proofs.lemmas.Fmt.{decimal_is_IsNumeral, decimal_nonempty, length-decimal-le}
use Rattle.std.proofs.lemmas.Str.Parse.{IsNumeralModel, numerals_by_value, tells_all_ascii_digits, digit_at}
use Rattle.std.proofs.lemmas.List.{append-nil}
use Rattle.std.proofs.lemmas.List.Splits.{slice_split_at, slice_split_none}
use Rattle.std.proofs.lemmas.List.Elements.{All-from_get_or, All-from_recursion}
use Rattle.std.proofs.lemmas.Bool.Decides.{nat_tests}
use Rattle.text_words.specs.Words.{is_gap, full_parts, words, is_number}
use Rattle.separation_core.specs.Names.{is_name, is_name_byte}
use Rattle.board_lines.specs.Reading.{is_comment}
use Rattle.board_lines.specs.Saying.{behind}
use Rattle.board_lines.specs.Grammar.{IsNumeral}
use Rattle.board_lines.proofs.Booleans.{and_first, and_second}

pub record IsWord (w : List ℕ) : Type 0 where
  pub some : 0 < length w
  pub plain : All (λ b. is_gap b ≡ false) w

keep : (w : List ℕ) (parts : List (List ℕ)) → 0 < length w → full_parts (w ∷ parts) ≡ w ∷ full_parts parts
keep [] parts lt = absurd (omega arith)
keep (b ∷ w) parts lt = let e : eqb (length (b ∷ w)) 0 ≡ false = grind (arith, nat_tests) in rw e refl

-- words that are joined by single spaces are split into the same words again
pub words_behind : (w : List ℕ) (ws : List (List ℕ)) → IsWord w → AllByRecursion IsWord ws → words (w ++ behind ws) ≡ w ∷ ws
words_behind w [] p h = ap words (append-nil w) ∙ ap full_parts (slice_split_none is_gap w p.plain) ∙ keep w [] p.some
words_behind w (v ∷ ws) p h = ap full_parts (slice_split_at is_gap w 32 (v ++ behind ws) p.plain refl) ∙ keep w (slice_split is_gap (v ++ behind ws)) p.some ∙ ap (λ (l : List (List ℕ)). w ∷ l) (words_behind v ws h.0 h.1)

-- ---- numbers

own : IsNumeralModel (λ ds. all_ascii_digits ds ≡ true) (digits_value 10)
own = numerals_by_value _ tells_all_ascii_digits

no_gap : (b : ℕ) → IsInRange 48 57 b → is_gap b ≡ false
no_gap b r = grind (arith, nat_tests)

digits_plain : (w : List ℕ) → AllDigits 10 w → All (λ b. is_gap b ≡ false) w
digits_plain w h = All-from_get_or (λ b. is_gap b ≡ false) w 0 (λ i lt. no_gap (get_or w i 0) (digit_at w i h lt))

no_mark : (b : ℕ) → IsInRange 48 57 b → eqb b 35 ≡ false
no_mark b r = grind (arith, nat_tests)

no_comment : (w : List ℕ) → AllDigits 10 w → is_comment w ≡ false
no_comment [] h = refl
no_comment (b ∷ w) h = no_mark b (digit_at (b ∷ w) 0 h (omega arith))

-- the text of a number is a word, and is read as that number
pub record IsSpelled (n : ℕ) : Type 0 where
  pub word : IsWord (decimal n)
  pub numeral : IsNumeral (decimal n) n

and_all : (a b c d : Bool) → a ≡ true → b ≡ true → c ≡ true → d ≡ true → (a && (b && (c && d))) ≡ true
and_all a b c d e f g h = rw (e, f, g, h) refl

lt_true : (m n : ℕ) → m < n → nat_lt m n ≡ true
lt_true m n h = grind (arith, nat_tests)

le_true : (m n : ℕ) → m ≤ n → nat_le m n ≡ true
le_true m n h = grind (arith, nat_tests)

pub spelled : (n : ℕ) → n < 2 ^ 32 → IsSpelled n
spelled n lt =
    let small : n < 2 ^ 64 = omega arith in
    let numeral = decimal_is_IsNumeral n small in
    let digits : AllDigits 10 (decimal n) = numeral.0.1 in
    let number : is_number (decimal n) ≡ true = and_all (nat_lt 0 (length (decimal n))) (nat_le (length (decimal n)) 10) (all_ascii_digits (decimal n)) (nat_lt (digits_value 10 (decimal n)) (2 ^ 32)) (lt_true _ _ (decimal_nonempty n small)) (le_true _ _ (length-decimal-le 10 n (omega arith) (omega arith) small)) (own.from _ digits) (lt_true _ _ (omega (arith, numeral.1))) in
    record {
      word = record { some = decimal_nonempty n small; plain = digits_plain (decimal n) digits };
      numeral = record { digits = number; value = numeral.1 };
    }

-- a number is no comment
pub digits_no_comment : (w : List ℕ) → is_number w ≡ true → is_comment w ≡ false
digits_no_comment w e = no_comment w (own.to _ (and_first (all_ascii_digits w) (nat_lt (digits_value 10 w) (2 ^ 32)) (and_second (nat_le (length w) 10) (all_ascii_digits w && nat_lt (digits_value 10 w) (2 ^ 32)) (and_second (nat_lt 0 (length w)) (nat_le (length w) 10 && (all_ascii_digits w && nat_lt (digits_value 10 w) (2 ^ 32))) e))))

-- ---- names and fixed words

abbrev HasNoGap : List ℕ → Type 0
HasNoGap = AllByRecursion (λ b. is_gap b ≡ false)

literal : (w : List ℕ) → 0 < length w → HasNoGap w → IsWord w
literal w lt h = record { some = lt; plain = All-from_recursion (λ b. is_gap b ≡ false) w h }

name_byte_plain : (b : ℕ) → is_name_byte b ≡ true → is_gap b ≡ false
name_byte_plain b e = grind (arith, nat_tests)

name_plain : (w : List ℕ) → list_all is_name_byte w ≡ true → HasNoGap w
name_plain [] e = tt
name_plain (b ∷ w) e = (name_byte_plain b (and_first _ _ e), name_plain w (and_second _ _ e))

le_from : (m n : ℕ) → nat_le m n ≡ true → m ≤ n
le_from m n e = grind (arith, nat_tests)

-- a name is a word; so is each word of letters, digits and dashes
pub name_word : (w : List ℕ) → is_name w ≡ true → IsWord w
name_word w e =
    let some : 1 ≤ length w = le_from 1 (length w) (and_first _ _ e) in
    let plain : list_all is_name_byte w ≡ true = and_second (nat_le (length w) 32) (list_all is_name_byte w) (and_second (nat_le 1 (length w)) (nat_le (length w) 32 && list_all is_name_byte w) e) in
    literal w (omega arith) (name_plain w plain)
