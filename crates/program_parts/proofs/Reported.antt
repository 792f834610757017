-- Texts that are reported part by part.
use Rattle.std.proofs.Common.{◌≡◌, ◌∙◌, ℕ, List, ◌++◌, Option, Some, None, sym, ap, subst, append_assoc}
use Rattle.std.specs.Io.KnownBytes.{Appends}
use Rattle.line_engine.specs.Running.{AppendsPrefix}

adds_then : (a b c : Option (List ℕ)) (x y : List ℕ) → Appends a b x → Appends b c y → Appends a c (x ++ y)
adds_then None b c x y h k = tt
adds_then (Some p) None c x y h k = absurd h
adds_then (Some p) (Some q) None x y h k = absurd k
adds_then (Some p) (Some q) (Some r) x y h k = k ∙ ap (λ (l : List ℕ). l ++ y) h ∙ append_assoc p x y

-- a part was reported, and then a prefix of the rest
pub report_then : (a b c : Option (List ℕ)) (given x y : List ℕ) → given ≡ x → Appends a b given → AppendsPrefix b c y → AppendsPrefix a c (x ++ y)
report_then a b c given x y e h k =
    (x ++ k.0, k.1, ap (λ (l : List ℕ). x ++ l) k.2 ∙ sym (append_assoc x k.0 k.1), adds_then a b c x k.0 (subst (λ (l : List ℕ). Appends a b l) e h) k.3)

-- a prefix of a part was reported, and nothing behind it
pub report_part : (a b : Option (List ℕ)) (given x y : List ℕ) → given ≡ x → AppendsPrefix a b given → AppendsPrefix a b (x ++ y)
report_part a b given x y e h = (h.0, h.1 ++ y, ap (λ (l : List ℕ). l ++ y) (sym e ∙ h.2) ∙ append_assoc h.0 h.1 y, h.3)
