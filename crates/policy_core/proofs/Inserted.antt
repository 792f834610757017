-- An entry that is put back.
use Rattle.std.proofs.Common.{◌≡◌, ℕ, Bool, true, false, if◌then◌else◌, List, [], ◌∷◌, bytes_eq, Some, Result, Ok, Err, refl, sym, ap, ◌∙◌, subst}
use Rattle.std.specs.Prelude.{IfOk, OnErr}
use Rattle.std.specs.Map.{lookup}
use Rattle.indexmap.specs.IndexMap.{insert_entry}

pub put_back : (es : List (List ℕ × ℕ)) (k : List ℕ) (v old : ℕ) → lookup (bytes_eq k) es ≡ Some old → insert_entry bytes_eq (insert_entry bytes_eq es k v) k old ≡ es
put_back [] k v old h = absurd cc
put_back (e ∷ es) k v old h = by (bytes_eq k e.0) refl (put_back es k v old)
  where
    by : (b : Bool) → bytes_eq k e.0 ≡ b → (lookup (bytes_eq k) es ≡ Some old → insert_entry bytes_eq (insert_entry bytes_eq es k v) k old ≡ es)
        → insert_entry bytes_eq (insert_entry bytes_eq (e ∷ es) k v) k old ≡ e ∷ es
    by true is rest =
        let found : Some e.1 ≡ Some old = sym (ap (λ (c : Bool). if c then Some e.1 else lookup (bytes_eq k) es) is) ∙ h in
        let same : old ≡ e.1 = cc found in
        ap (λ (c : Bool). insert_entry bytes_eq (if c then (e.0, v) ∷ es else e ∷ insert_entry bytes_eq es k v) k old) is
        ∙ ap (λ (c : Bool). if c then (e.0, old) ∷ es else (e.0, v) ∷ insert_entry bytes_eq es k old) is
        ∙ ap (λ (n : ℕ). (e.0, n) ∷ es) same
    by false is rest =
        let there : lookup (bytes_eq k) es ≡ Some old = sym (ap (λ (c : Bool). if c then Some e.1 else lookup (bytes_eq k) es) is) ∙ h in
        ap (λ (c : Bool). insert_entry bytes_eq (if c then (e.0, v) ∷ es else e ∷ insert_entry bytes_eq es k v) k old) is
        ∙ ap (λ (c : Bool). if c then (e.0, old) ∷ insert_entry bytes_eq es k v else e ∷ insert_entry bytes_eq (insert_entry bytes_eq es k v) k old) is
        ∙ ap (λ (l : List (List ℕ × ℕ)). e ∷ l) (rest there)

-- what holds of the old entries and of those with one more holds of what an insertion leaves
pub either : {E X : Type 0} (P : X → Type 0) (result : Result Bool E) (old more new : X)
    → IfOk result (λ is_new. is_new ≡ true → new ≡ more) → IfOk result (λ is_new. is_new ≡ false → new ≡ old) → OnErr result (new ≡ old) → P old → P more → P new
either P (Ok true) old more new added kept err was is = subst P (sym (added refl)) is
either P (Ok false) old more new added kept err was is = subst P (sym (kept refl)) was
either P (Err e) old more new added kept err was is = subst P (sym err) was
