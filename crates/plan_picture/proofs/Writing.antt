-- Texts, or marks, one behind another.
use Rattle.std.proofs.Common.{◌≡◌, ◌∙◌, ◌/◌, ◌%◌, ℕ, List, [], ◌++◌, Result, Ok, Err, OnOk, ap, sym, append_assoc, append-nil, codes}
use Rattle.std.specs.Fmt.{decimal}
use Rattle.plan_picture.specs.Texts.{unit_text}

-- where the second of two is the result of the whole
pub behind : {T E X : Type 0} (r : Result T E) (o a b n1 n2 : List X) → n1 ≡ o ++ a → OnOk r (n2 ≡ n1 ++ b) → OnOk r (n2 ≡ o ++ (a ++ b))
behind {T} {E} {X} (Ok x) o a b n1 n2 h1 h2 = h2 ∙ ap (λ (l : List X). l ++ b) h1 ∙ append_assoc o a b
behind (Err e) o a b n1 n2 h1 h2 = h2

-- where the third of three is
pub joined : {T E X : Type 0} (r : Result T E) (o a b c n1 n2 n3 : List X) → n1 ≡ o ++ a → n2 ≡ n1 ++ b → OnOk r (n3 ≡ n2 ++ c) → OnOk r (n3 ≡ o ++ (a ++ (b ++ c)))
joined r o a b c n1 n2 n3 h1 h2 h3 = behind r o a (b ++ c) n1 n3 h1 (behind r n1 b c n2 n3 h2 h3)

-- where each of three gave a value
pub three : {X : Type 0} (o a b c n1 n2 n3 : List X) → n1 ≡ o ++ a → n2 ≡ n1 ++ b → n3 ≡ n2 ++ c → n3 ≡ o ++ (a ++ (b ++ c))
three o a b c n1 n2 n3 h1 h2 h3 = joined {T = Unit {0}} {E = Unit {0}} (Ok tt) o a b c n1 n2 n3 h1 h2 h3

-- tenths before what is behind them, and at the end
pub units : (t : ℕ) (rest : List ℕ) → unit_text t ++ rest ≡ decimal (t / 10) ++ (codes "." ++ (decimal (t % 10) ++ rest))
unfolding unit_text
units t rest =
    append_assoc (decimal (t / 10)) (codes "." ++ decimal (t % 10)) rest
    ∙ ap (λ (l : List ℕ). decimal (t / 10) ++ l) (append_assoc (codes ".") (decimal (t % 10)) rest)

pub last_units : (t : ℕ) → unit_text t ≡ decimal (t / 10) ++ (codes "." ++ (decimal (t % 10) ++ []))
unfolding unit_text
last_units t = ap (λ (l : List ℕ). decimal (t / 10) ++ (codes "." ++ l)) (sym (append-nil (decimal (t % 10))))
