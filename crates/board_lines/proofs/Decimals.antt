-- The text of a number, digit by digit.
use Rattle.std.proofs.Common.{◌≡◌, ℕ, zero, suc, ◌<◌, ◌≤◌, ◌/◌, ◌%◌, ◌^◌, List, ◌++◌, ◌==◌, false, refl, append_assoc, Result, Ok, Err, OnOk, decimal, ap, sym, ◌∙◌, arith}
use Rattle.board_lines.specs.Replies.{leading}
use Rattle.std.proofs.lemmas.Fmt.{decimal_digit, decimal_step}

last_is : (n : ℕ) → 10 ≤ n → n < 2 ^ 64 → decimal (n / 10) ++ decimal (n % 10) ≡ decimal n
last_is n ge small =
    let one : n % 10 < 10 = omega arith in
    ap (λ (l : List ℕ). decimal (n / 10) ++ l) (decimal_digit (n % 10) one) ∙ sym (decimal_step n ge small)

-- all digits of a number but 0
leading_is : (n : ℕ) → 1 ≤ n → leading n ≡ decimal n
leading_is zero ge = absurd (omega (arith, ge))
leading_is (suc n) ge = refl

-- the last digit follows those before it, if there are any
after_leading : (n : ℕ) → n < 2 ^ 64 → leading (n / 10) ++ decimal (n % 10) ≡ decimal n
after_leading n small = by (n / 10) refl
  where
    by : (tens : ℕ) → n / 10 ≡ tens → leading (n / 10) ++ decimal (n % 10) ≡ decimal n
    by zero e =
        let alone : n % 10 ≡ n = omega (arith, e) in
        ap (λ (k : ℕ). leading k ++ decimal (n % 10)) e ∙ ap (λ (k : ℕ). decimal k) alone
    by (suc tens) e =
        let ge : 10 ≤ n = omega (arith, e) in
        let some : 1 ≤ n / 10 = omega (arith, e) in
        ap (λ (l : List ℕ). l ++ decimal (n % 10)) (leading_is (n / 10) some) ∙ last_is n ge small

with_last : (old mid now : List ℕ) (n : ℕ) → n < 2 ^ 64 → mid ≡ old ++ leading (n / 10) → now ≡ mid ++ decimal (n % 10) → now ≡ old ++ decimal n
with_last old mid now n small tens last =
    last ∙ ap (λ (l : List ℕ). l ++ decimal (n % 10)) tens ∙ append_assoc old (leading (n / 10)) (decimal (n % 10)) ∙ ap (λ (l : List ℕ). old ++ l) (after_leading n small)

-- one more digit after the leading ones
pub one_more : {A E : Type 0} (r : Result A E) (old mid now : List ℕ) (n : ℕ) → 1 ≤ n → n < 2 ^ 64 → mid ≡ old ++ leading (n / 10) → OnOk r (now ≡ mid ++ decimal (n % 10)) → OnOk r (now ≡ old ++ leading n)
one_more (Ok x) old mid now n ge small tens last = with_last old mid now n small tens last ∙ ap (λ (l : List ℕ). old ++ l) (sym (leading_is n ge))
one_more (Err e) old mid now n ge small tens last = tt

-- the last two digits follow those of its hundreds
pub two_more : {A E : Type 0} (r : Result A E) (old first second now : List ℕ) (n : ℕ) → 10 ≤ n → n < 2 ^ 64 → first ≡ old ++ leading (n / 100)
    → second ≡ first ++ decimal (n % 100 / 10) → OnOk r (now ≡ second ++ decimal (n % 100 % 10)) → OnOk r (now ≡ old ++ decimal n)
two_more (Ok x) old first second now n ge small hundreds tens last =
    let above : n / 100 ≡ n / 10 / 10 = omega arith in
    let below : n % 100 / 10 ≡ n / 10 % 10 = omega arith in
    let end : n % 100 % 10 ≡ n % 10 = omega arith in
    let some : 1 ≤ n / 10 = omega (arith, ge) in
    let high : n / 10 < 2 ^ 64 = omega (arith, small) in
    let here : second ≡ old ++ decimal (n / 10) =
    with_last old first second (n / 10) high (hundreds ∙ ap (λ (k : ℕ). old ++ leading k) above) (tens ∙ ap (λ (k : ℕ). first ++ decimal k) below) in
    with_last old second now n small (here ∙ ap (λ (l : List ℕ). old ++ l) (sym (leading_is (n / 10) some)))
    (last ∙ ap (λ (k : ℕ). second ++ decimal k) end)
two_more (Err e) old first second now n ge small hundreds tens last = tt

-- a number that is a digit
pub digit_first : {A E : Type 0} (r : Result A E) (old now : List ℕ) (n : ℕ) → (n == 0) ≡ false → OnOk r (now ≡ old ++ decimal n) → OnOk r (now ≡ old ++ leading n)
digit_first (Ok x) old now zero e is = absurd cc
digit_first (Ok x) old now (suc n) e is = is
digit_first (Err x) old now n e is = tt

-- the digits of a number, part by part
pub leading_whole : (n : ℕ) → 1 ≤ n → n < 2 ^ 64 → leading n ≡ leading (n / 10) ++ decimal (n % 10)
leading_whole n ge small = leading_is n ge ∙ sym (after_leading n small)

pub few_whole : (n : ℕ) → 10 ≤ n → n < 2 ^ 64 → decimal n ≡ leading (n / 100) ++ (decimal (n % 100 / 10) ++ decimal (n % 100 % 10))
few_whole n ge small =
    let above : n / 10 / 10 ≡ n / 100 = omega arith in
    let below : n / 10 % 10 ≡ n % 100 / 10 = omega arith in
    let end : n % 10 ≡ n % 100 % 10 = omega arith in
    let high : n / 10 < 2 ^ 64 = omega (arith, small) in
    sym (last_is n ge small)
    ∙ ap (λ (l : List ℕ). l ++ decimal (n % 10)) (sym (after_leading (n / 10) high))
    ∙ append_assoc (leading (n / 10 / 10)) (decimal (n / 10 % 10)) (decimal (n % 10))
    ∙ ap (λ (k : ℕ). leading k ++ (decimal (n / 10 % 10) ++ decimal (n % 10))) above
    ∙ ap (λ (k : ℕ). leading (n / 100) ++ (decimal k ++ decimal (n % 10))) below
    ∙ ap (λ (k : ℕ). leading (n / 100) ++ (decimal (n % 100 / 10) ++ decimal k)) end
