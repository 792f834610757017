-- Lists to which a part is appended.
use Rattle.std.proofs.Common.{◌≡◌, ◌∙◌, ℕ, ◌+◌, ◌<◌, ◌≤◌, sym, ap, arith, List, [], ◌∷◌, ◌++◌, length, take, get_or, append_assoc, Result, Ok, Err, is_ok, OnOk, if◌then◌else◌}
use Rattle.std.proofs.lemmas.List.{take_more, take_all}

-- one more element of it
pub part_more : {X : Type 0} (new list old part : List X) (i : ℕ) (x : X) → new ≡ list ++ x ∷ [] → list ≡ old ++ take i part → x ≡ get_or part i x → i < length part
    → new ≡ old ++ take (i + 1) part
part_more new list old part i x push front is h =
    push ∙ ap (λ xs. xs ++ x ∷ []) front ∙ append_assoc old (take i part) (x ∷ [])
    ∙ ap (λ xs. old ++ xs) (ap (λ y. take i part ++ y ∷ []) is ∙ sym (take_more part i x h))

-- all of its elements
pub part_all : {X : Type 0} (list old part : List X) (i : ℕ) → list ≡ old ++ take i part → length part ≤ i → list ≡ old ++ part
part_all list old part i front h = front ∙ ap (λ xs. old ++ xs) (take_all i part h)

pub room_left : (len old part most cap i : ℕ) → len ≡ old + i → most ≤ cap → old + part ≤ most → i < part → len < cap
room_left len old part most cap i e more room h = omega arith

pub count_more : (new len old i : ℕ) → new ≡ len + 1 → len ≡ old + i → new ≡ old + (i + 1)
count_more new len old i push e = omega arith

pub count_all : (len old part i : ℕ) → len ≡ old + i → i ≤ part → part ≤ i → len ≡ old + part
count_all len old part i e low high = omega arith

pub capacity_kept : (new cap old : ℕ) → old ≤ cap → new ≡ cap → old ≤ new
capacity_kept new cap old h e = omega arith

-- what a result gives where there is a value
pub given : {T E X : Type 0} (r : Result T E) (x y z : X) → x ≡ (if is_ok r then y else z) → OnOk r (x ≡ y)
given (Ok t) x y z e = e
given (Err n) x y z e = tt

-- four parts, one after the other
pub four_parts : {X : Type 0} (start one two three a b d e : List X) → start ≡ [] → one ≡ start ++ a → two ≡ one ++ b → three ≡ two ++ d
    → three ++ e ≡ a ++ (b ++ (d ++ e))
four_parts start one two three a b d e none first second third =
    ap (λ xs. xs ++ e) (third ∙ ap (λ xs. xs ++ d) (second ∙ ap (λ xs. xs ++ b) (first ∙ ap (λ xs. xs ++ a) none)))
    ∙ append_assoc (a ++ b) d e ∙ append_assoc a b (d ++ e)

-- and room for those that are left
pub room_all : (len a b d e cap : ℕ) → len + (a + b + d + e) ≤ cap → len + (a + (b + (d + e))) ≤ cap
room_all len a b d e cap h = omega arith

pub room_next : (new len a rest more cap : ℕ) → len + (a + rest) ≤ cap → new ≡ len + a → cap ≤ more → new + rest ≤ more
room_next new len a rest more cap h e l = omega arith

pub room_now : (len a rest cap : ℕ) → len + (a + rest) ≤ cap → len + a ≤ cap
room_now len a rest cap h = omega arith
