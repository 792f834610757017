-- The fault that is computed is that of the first check that fails.
use Rattle.std.proofs.Common.{◌≡◌, Bool, true, false, cond, List, [], ◌∷◌, ◌++◌, Option, None, Some, refl, ap, ◌∙◌}
use Rattle.text_words.specs.Checks.{Check, check, AllHold, IsFirstFailed, first_fault}

none_bad : {F A : Type 0} (f : F) → ◌≡◌ {A = Option F} None (Some f) → A
none_bad f e = absurd cc

some_same : {F : Type 0} (e f : F) → ◌≡◌ {A = Option F} (Some e) (Some f) → e ≡ f
some_same e f h = cc

here : {F : Type 0} (c : Check F) (cs : List (Check F)) (f : F) → c.holds ≡ false → c.fault ≡ f → IsFirstFailed (c ∷ cs) f
here c cs f h e = record { before = []; behind = cs; whole = rw (← h, ← e) refl; earlier = tt }

later : {F : Type 0} (c : Check F) (cs : List (Check F)) (f : F) → c.holds ≡ true → IsFirstFailed cs f → IsFirstFailed (c ∷ cs) f
later {F} c cs f h p = record { before = c ∷ p.before; behind = p.behind; whole = ap (λ (l : List (Check F)). c ∷ l) p.whole; earlier = (h, p.earlier) }

split : {F : Type 0} (c : Check F) (cs : List (Check F)) (f : F) (b : Bool) → c.holds ≡ b → cond b (first_fault cs) (Some c.fault) ≡ Some f
    → (first_fault cs ≡ Some f → IsFirstFailed cs f) → IsFirstFailed (c ∷ cs) f
split c cs f true h e again = later c cs f h (again e)
split c cs f false h e again = here c cs f h (some_same c.fault f e)

pub first_is : {F : Type 0} (cs : List (Check F)) (f : F) → first_fault cs ≡ Some f → IsFirstFailed cs f
first_is [] f e = none_bad f e
first_is (c ∷ cs) f e = split c cs f c.holds refl e (first_is cs f)

found : {F : Type 0} (before behind : List (Check F)) (f : F) → AllHold before → first_fault (before ++ check f false ∷ behind) ≡ Some f
found [] behind f h = refl
found (c ∷ before) behind f h = rw h.0 (found before behind f h.1)

pub is_first : {F : Type 0} (cs : List (Check F)) (f : F) → IsFirstFailed cs f → first_fault cs ≡ Some f
is_first {F} cs f p = ap (first_fault {F = F}) p.whole ∙ found p.before p.behind f p.earlier
