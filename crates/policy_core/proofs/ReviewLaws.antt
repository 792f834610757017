-- Lists that are gathered from a map, entry by entry.
use Rattle.std.proofs.Common.{◌≡◌, ℕ, ◌+◌, ◌≤◌, Bool, true, false, cond, List, [], ◌∷◌, ◌++◌, Some, map, filter, length, take, sym, refl, ap, ◌∙◌}
use Rattle.std.specs.Prelude.{slice_get}
use Rattle.std.proofs.lemmas.List.{map-append, append-nil, take_all}
use Rattle.separation_core.specs.GroupLaws.{take_at}

module _ {E X : Type 0} (f : E → X) (keep : E → Bool) where
  -- what is gathered of these entries
  abbrev pub gathered : List E → List X
  gathered es = map f (filter keep es)

  filter-append : (xs ys : List E) → filter keep (xs ++ ys) ≡ filter keep xs ++ filter keep ys
  filter-append [] ys = refl
  filter-append (x ∷ xs) ys = elim (keep x) as (λ t. cond t (x ∷ filter keep (xs ++ ys)) (filter keep (xs ++ ys)) ≡ cond t (x ∷ filter keep xs) (filter keep xs) ++ filter keep ys) [
    | true ↦ ap (λ zs. x ∷ zs) (filter-append xs ys)
    | false ↦ filter-append xs ys
  ]

  one : (e : E) (t : Bool) → keep e ≡ t → gathered (e ∷ []) ≡ cond t (f e ∷ []) []
  one e t h = ap (λ b. map f (cond b (e ∷ []) [])) h ∙ same t
    where
      same : (b : Bool) → map f (cond b (e ∷ []) []) ≡ cond b (f e ∷ []) []
      same true = refl
      same false = refl

  next : (es : List E) (i : ℕ) (e : E) (t : Bool) → slice_get es i ≡ Some e → keep e ≡ t → gathered (take i es) ++ cond t (f e ∷ []) [] ≡ gathered (take (i + 1) es)
  next es i e t here h =
      ap (λ xs. gathered (take i es) ++ xs) (sym (one e t h))
      ∙ sym (ap gathered (take_at es i e here) ∙ ap (map f) (filter-append (take i es) (e ∷ [])) ∙ map-append f (filter keep (take i es)) (filter keep (e ∷ [])))

  pub gathered_more : (es : List E) (i : ℕ) (e : E) → slice_get es i ≡ Some e → keep e ≡ true → gathered (take i es) ++ f e ∷ [] ≡ gathered (take (i + 1) es)
  gathered_more es i e here h = next es i e true here h

  pub gathered_skip : (es : List E) (i : ℕ) (e : E) → slice_get es i ≡ Some e → keep e ≡ false → gathered (take i es) ≡ gathered (take (i + 1) es)
  gathered_skip es i e here h = sym (append-nil (gathered (take i es))) ∙ next es i e false here h

  pub gathered_all : (es : List E) (n : ℕ) → length es ≤ n → gathered (take n es) ≡ gathered es
  gathered_all es n h = ap gathered (take_all n es h)
