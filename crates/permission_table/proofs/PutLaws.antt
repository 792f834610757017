-- Changes that are put one after another, from the last to the first.
use Rattle.std.proofs.Common.{◌≡◌, ℕ, Bool, true, false, cond, List, [], ◌∷◌, ◌++◌, Option, Some, None, refl, ap, ◌∙◌, sym}
use Rattle.std.specs.Prelude.{nat_eq, unwrap_or}
use Rattle.std.specs.Map.{lookup}
use Rattle.std.specs.Option.{option_or}

-- a change at the end counts where none before it is for its session
pub lookup-push : {V : Type 0} (changes : List (ℕ × V)) (session : ℕ) (found : V) (q : ℕ) →
    lookup (nat_eq q) (changes ++ (session, found) ∷ []) ≡ option_or (lookup (nat_eq q) changes) (cond (nat_eq q session) (Some found) None)
lookup-push [] session found q = refl
lookup-push (c ∷ changes) session found q =
    elim (nat_eq q c.0) as (λ t. cond t (Some c.1) (lookup (nat_eq q) (changes ++ (session, found) ∷ [])) ≡ option_or (cond t (Some c.1) (lookup (nat_eq q) changes)) (cond (nat_eq q session) (Some found) None)) [
      | true ↦ refl
      | false ↦ lookup-push changes session found q
    ]

unwrap_or-option_or : {V : Type 0} (o : Option V) (t : Bool) (found old : V) → unwrap_or o (cond t found old) ≡ unwrap_or (option_or o (cond t (Some found) None)) old
unwrap_or-option_or None true found old = refl
unwrap_or-option_or None false found old = refl
unwrap_or-option_or (Some v) t found old = refl

-- where the last change is put first, the others still count before it
pub unwrap_or-last : {V : Type 0} (changes : List (ℕ × V)) (session : ℕ) (found old : V) (q : ℕ) →
    unwrap_or (lookup (nat_eq q) changes) (cond (nat_eq q session) found old) ≡ unwrap_or (lookup (nat_eq q) (changes ++ (session, found) ∷ [])) old
unwrap_or-last changes session found old q =
    unwrap_or-option_or (lookup (nat_eq q) changes) (nat_eq q session) found old ∙ ap (λ o. unwrap_or o old) (sym (lookup-push changes session found q))
