-- Known bytes that grow in two steps.
use Rattle.std.proofs.Common.{◌≡◌, ℕ, List, [], ◌++◌, Option, Some, None, ap, sym, refl, ◌∙◌, append_assoc, length, take, drop, ◌-◌, arith}
use Rattle.std.proofs.lemmas.List.{take_all, length-drop, take-append-drop, append-nil}
use Rattle.std.specs.Io.KnownBytes.{Appends, Keeps, Consumes}

pub Appends-none : (a : Option (List ℕ)) → Appends a a []
Appends-none None = tt
Appends-none (Some xs) = sym (append-nil xs)

pub Appends-keeps : (a b : Option (List ℕ)) → Keeps a b → Appends a b []
Appends-keeps None b h = tt
Appends-keeps (Some xs) None h = absurd h
Appends-keeps (Some xs) (Some ys) h = h ∙ sym (append-nil xs)

pub Appends-then : (a b c : Option (List ℕ)) (x y : List ℕ) → Appends a b x → Appends b c y → Appends a c (x ++ y)
Appends-then None b c x y p q = tt
Appends-then (Some xs) None c x y p q = absurd p
Appends-then (Some xs) (Some ys) None x y p q = absurd q
Appends-then (Some xs) (Some ys) (Some zs) x y p q = q ∙ ap (λ (t : List ℕ). t ++ y) p ∙ append_assoc xs x y

-- one more piece of what is to be written
pub advance : (bytes done rest : List ℕ) (n : ℕ) → bytes ≡ done ++ rest → bytes ≡ (done ++ take n rest) ++ take (length rest - n) (drop n rest)
advance bytes done rest n e =
    rw (take_all (length rest - n) (drop n rest) (omega (arith, length-drop n rest)), append_assoc, take-append-drop n rest) e

pub Consumes-none : (a : Option (List ℕ)) → Consumes a a []
Consumes-none None = tt
Consumes-none (Some xs) = refl

pub Consumes-then : (a b c : Option (List ℕ)) (x y : List ℕ) → Consumes a b x → Consumes b c y → Consumes a c (x ++ y)
Consumes-then None b c x y p q = tt
Consumes-then (Some xs) None c x y p q = absurd p
Consumes-then (Some xs) (Some ys) None x y p q = absurd q
Consumes-then (Some xs) (Some ys) (Some zs) x y p q = p ∙ ap (λ (t : List ℕ). x ++ t) q ∙ sym (append_assoc x y zs)

pub Consumes-keeps : (a b : Option (List ℕ)) → Keeps a b → Consumes a b []
Consumes-keeps None b h = tt
Consumes-keeps (Some xs) None h = absurd h
Consumes-keeps (Some xs) (Some ys) h = sym h

pub Consumes-kept : (a b c : Option (List ℕ)) (x : List ℕ) → Consumes a b x → Keeps b c → Consumes a c (x ++ [])
Consumes-kept a b c x p k = Consumes-then a b c x [] p (Consumes-keeps b c k)
