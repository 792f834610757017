-- Whether a new route has a customer, by whether its parts have.
use Rattle.std.proofs.Common.{◌≡◌, ◌==◌, ◌∙◌, ℕ, ◌+◌, ◌≤◌, refl, sym, ap, arith, List, ◌++◌, length, Bool, true, false}
use Rattle.std.proofs.lemmas.Bool.{eqb-true, eqb-false, ne_eqb}
use Rattle.std.proofs.lemmas.List.{length-append, length-reverse}
use Rattle.route_parts.specs.declared.parts.Parts.{Parts}
use Rattle.route_parts.specs.Parts.{route_of, way_of}

some_of : (x : Bool) (k n : ℕ) → x ≡ (k == 0) → x ≡ false → k ≤ n → false ≡ (n == 0)
some_of x k n e f h = sym (ne_eqb n 0 (λ none. eqb-false k 0 (sym e ∙ f) (omega arith)))

way_long : (turned : Bool) (xs : List ℕ) → length (way_of turned xs) ≡ length xs
way_long true xs = length-reverse xs
way_long false xs = refl

-- how long it is
long : (p : Parts) → length (route_of p) ≡ length p.front.now + (length p.first.now + (length p.second.now + (length p.third.now + length p.back.now)))
long p =
    let a = length-append p.front.now (way_of p.turned p.first.now ++ (p.second.now ++ (p.third.now ++ p.back.now))) in
    let b = length-append (way_of p.turned p.first.now) (p.second.now ++ (p.third.now ++ p.back.now)) in
    let c = length-append p.second.now (p.third.now ++ p.back.now) in
    let d = length-append p.third.now p.back.now in
    let w = way_long p.turned p.first.now in
    omega arith

pub some_front : (p : Parts) (x : Bool) → x ≡ (length p.front.now == 0) → x ≡ false → false ≡ (length (route_of p) == 0)
some_front p x e f = some_of x (length p.front.now) _ e f (let l = long p in omega arith)

pub some_first : (p : Parts) (x : Bool) → x ≡ (length p.first.now == 0) → x ≡ false → false ≡ (length (route_of p) == 0)
some_first p x e f = some_of x (length p.first.now) _ e f (let l = long p in omega arith)

pub some_second : (p : Parts) (x : Bool) → x ≡ (length p.second.now == 0) → x ≡ false → false ≡ (length (route_of p) == 0)
some_second p x e f = some_of x (length p.second.now) _ e f (let l = long p in omega arith)

pub some_third : (p : Parts) (x : Bool) → x ≡ (length p.third.now == 0) → x ≡ false → false ≡ (length (route_of p) == 0)
some_third p x e f = some_of x (length p.third.now) _ e f (let l = long p in omega arith)

pub back_alone : (p : Parts) (a b c d x : Bool) → a ≡ (length p.front.now == 0) → b ≡ (length p.first.now == 0) → c ≡ (length p.second.now == 0) → d ≡ (length p.third.now == 0) → x ≡ (length p.back.now == 0)
    → a ≡ true → b ≡ true → c ≡ true → d ≡ true → x ≡ (length (route_of p) == 0)
back_alone p a b c d x ea eb ec ed ex fa fb fc fd =
    let na = eqb-true (length p.front.now) 0 (sym ea ∙ fa) in
    let nb = eqb-true (length p.first.now) 0 (sym eb ∙ fb) in
    let nc = eqb-true (length p.second.now) 0 (sym ec ∙ fc) in
    let nd = eqb-true (length p.third.now) 0 (sym ed ∙ fd) in
    let l = long p in
    let same : length p.back.now ≡ length (route_of p) = omega arith in
    ex ∙ ap (λ (n : ℕ). n == 0) same
