-- Values that are changed place by place.
use Rattle.std.proofs.Common.{◌≡◌, ℕ, zero, suc, ◌+◌, ◌≤◌, Bool, true, false, cond, List, [], ◌∷◌, length, slice_get, Option, Some, None, refl, sym, ap, ap₂, subst, ◌∙◌, arith}
use Rattle.std.specs.Prelude.{nat_eq, is_some, unwrap_or}
use Rattle.std.specs.Map.{lookup, values_of}
use Rattle.std.specs.Option.{option_map}
use Rattle.std.proofs.lemmas.Bool.{eqb-true, false≢true}
use Rattle.indexmap.specs.IndexMap.{set_value_at}
use Rattle.permission_table.specs.Rights.{changed_at, all_changed}

module _ {V : Type 0} (f : ℕ → V → V) where
  -- the first n of them are changed
  unfoldable pub changed_first : List (ℕ × V) → ℕ → List (ℕ × V)
  changed_first [] n = []
  changed_first (e ∷ es) zero = e ∷ es
  changed_first (e ∷ es) (suc n) = (e.0, f e.0 e.1) ∷ changed_first es n

  pub changed_none : (es : List (ℕ × V)) → es ≡ changed_first es 0
  unfolding changed_first
  changed_none [] = refl
  changed_none (e ∷ es) = refl

  pub changed_past : (es : List (ℕ × V)) (n : ℕ) → length es ≤ n → changed_first es n ≡ all_changed f es
  unfolding changed_first
  changed_past [] n h = refl
  changed_past (e ∷ es) zero h = absurd (omega (arith, h))
  changed_past (e ∷ es) (suc n) h = ap (λ rest. (e.0, f e.0 e.1) ∷ rest) (changed_past es n (omega (arith, h)))

  changed_step : (es : List (ℕ × V)) (n : ℕ) → changed_at f (changed_first es n) n ≡ changed_first es (suc n)
  unfolding changed_first
  changed_step [] n = refl
  changed_step (e ∷ es) zero = ap (λ rest. (e.0, f e.0 e.1) ∷ rest) (changed_none es)
  changed_step (e ∷ es) (suc n) = ap (λ rest. (e.0, f e.0 e.1) ∷ rest) (changed_step es n)

  pub changed_next : (es : List (ℕ × V)) (n : ℕ) → changed_at f (changed_first es n) n ≡ changed_first es (n + 1)
  changed_next es n = (let next : suc n ≡ n + 1 = omega arith in changed_step es n ∙ ap (changed_first es) next)

  -- the value at the place, written as a map does it
  pub changed_by_writing : (es : List (ℕ × V)) (n k : ℕ) (v w : V) → slice_get es n ≡ Some (k, v) → w ≡ f k v → set_value_at es n w ≡ changed_at f es n
  changed_by_writing [] n k v w h is = refl
  changed_by_writing (e ∷ es) zero k v w h is =
      let same : e ≡ (k, v) = ap (λ (o : Option (ℕ × V)). unwrap_or o e) h in
      ap (λ x. (e.0, x) ∷ es) (is ∙ ap₂ f (sym (ap (λ (x : ℕ × V). x.0) same)) (sym (ap (λ (x : ℕ × V). x.1) same)))
  changed_by_writing (e ∷ es) (suc n) k v w h is = ap (λ rest. e ∷ rest) (changed_by_writing es n k v w h is)

  -- a value that is left as it is
  pub unchanged_at : (es : List (ℕ × V)) (n k : ℕ) (v : V) → slice_get es n ≡ Some (k, v) → f k v ≡ v → es ≡ changed_at f es n
  unchanged_at [] n k v h is = refl
  unchanged_at (e ∷ es) zero k v h is =
      let same : e ≡ (k, v) = ap (λ (o : Option (ℕ × V)). unwrap_or o e) h in
      ap (λ x. (e.0, x) ∷ es) (ap (λ (x : ℕ × V). x.1) same ∙ sym is ∙ ap₂ f (sym (ap (λ (x : ℕ × V). x.0) same)) (sym (ap (λ (x : ℕ × V). x.1) same)))
  unchanged_at (e ∷ es) (suc n) k v h is = ap (λ rest. e ∷ rest) (unchanged_at es n k v h is)

  -- past the end nothing is changed
  pub unchanged_past : (es : List (ℕ × V)) (n : ℕ) → slice_get es n ≡ None → es ≡ changed_at f es n
  unchanged_past [] n h = refl
  unchanged_past (e ∷ es) zero h = absurd (false≢true (sym (ap is_some h)))
  unchanged_past (e ∷ es) (suc n) h = ap (λ rest. e ∷ rest) (unchanged_past es n h)

  -- a look-up after all are changed
  pub lookup-changed : (session : ℕ) (es : List (ℕ × V)) → lookup (nat_eq session) (all_changed f es) ≡ option_map (f session) (lookup (nat_eq session) es)
  lookup-changed session [] = refl
  lookup-changed session (e ∷ es) = by (nat_eq session e.0) refl (lookup-changed session es)
    where
      by : (t : Bool) → nat_eq session e.0 ≡ t → lookup (nat_eq session) (all_changed f es) ≡ option_map (f session) (lookup (nat_eq session) es)
          → cond (nat_eq session e.0) (Some (f e.0 e.1)) (lookup (nat_eq session) (all_changed f es)) ≡ option_map (f session) (cond (nat_eq session e.0) (Some e.1) (lookup (nat_eq session) es))
      by true h rest =
          ap (λ t. cond t (Some (f e.0 e.1)) (lookup (nat_eq session) (all_changed f es))) h
          ∙ ap (λ k. Some (f k e.1)) (sym (eqb-true session e.0 h))
          ∙ ap (λ t. option_map (f session) (cond t (Some e.1) (lookup (nat_eq session) es))) (sym h)
      by false h rest =
          ap (λ t. cond t (Some (f e.0 e.1)) (lookup (nat_eq session) (all_changed f es))) h
          ∙ rest
          ∙ ap (λ t. option_map (f session) (cond t (Some e.1) (lookup (nat_eq session) es))) (sym h)

-- the entry of a value
pub entry_at : {V : Type 0} (es : List (ℕ × V)) (n : ℕ) (v : V) → slice_get (values_of es) n ≡ Some v → (k : ℕ) × (slice_get es n ≡ Some (k, v))
entry_at [] n v h = absurd (false≢true (ap is_some h))
entry_at (e ∷ es) zero v h = (e.0, ap (λ (o : Option _). Some (e.0, unwrap_or o e.1)) h)
entry_at (e ∷ es) (suc n) v h = entry_at es n v h

pub no_entry : {V : Type 0} (es : List (ℕ × V)) (n : ℕ) → slice_get (values_of es) n ≡ None → slice_get es n ≡ None
no_entry [] n h = refl
no_entry (e ∷ es) zero h = absurd (false≢true (sym (ap is_some h)))
no_entry (e ∷ es) (suc n) h = no_entry es n h

pub value_at : {V : Type 0} (es : List (ℕ × V)) (n k : ℕ) (v : V) → slice_get es n ≡ Some (k, v) → slice_get (values_of es) n ≡ Some v
value_at [] n k v h = absurd (false≢true (ap is_some h))
value_at (e ∷ es) zero k v h = ap (option_map (λ (x : ℕ × _). x.1)) h
value_at (e ∷ es) (suc n) k v h = value_at es n k v h

-- two changes that agree on the entry
pub changed_same : {V : Type 0} (f g : ℕ → V → V) (es : List (ℕ × V)) (n k : ℕ) (v : V) → slice_get es n ≡ Some (k, v) → f k v ≡ g k v → changed_at f es n ≡ changed_at g es n
changed_same f g [] n k v h is = refl
changed_same f g (e ∷ es) zero k v h is =
    let same : e ≡ (k, v) = ap (λ (o : Option _). unwrap_or o e) h in
    ap (λ x. (e.0, x) ∷ es) (subst (λ (x : ℕ × _). f x.0 x.1 ≡ g x.0 x.1) (sym same) is)
changed_same f g (e ∷ es) (suc n) k v h is = ap (λ rest. e ∷ rest) (changed_same f g es n k v h is)
