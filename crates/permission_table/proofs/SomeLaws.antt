-- Numbers below a bound that pass a test.
use Rattle.std.proofs.Common.{◌≡◌, ℕ, zero, suc, ◌<◌, Bool, true, ◌||◌, inl, inr, refl, sym, ap, ap₂, ◌∙◌, arith}
use Rattle.std.proofs.lemmas.Bool.{or_cases, cases_eq, false≢true}
use Rattle.policy_core.specs.Access.{some_below}

or_true : (t : Bool) → (t || true) ≡ true
or_true true = refl
or_true _ = refl

pub some_below-at : (test : ℕ → Bool) (k n : ℕ) → k < n → test k ≡ true → some_below test n ≡ true
unfolding some_below
some_below-at test k zero h passes = absurd (omega arith)
some_below-at test k (suc n) h passes = elim (cases_eq k n) [
  | inl e ↦ ap (λ t. some_below test n || t) (ap test (sym e) ∙ passes) ∙ or_true (some_below test n)
  | inr ne ↦ ap (λ t. t || test n) (some_below-at test k n (omega arith) passes)
]

pub some_below-found : (test : ℕ → Bool) (n : ℕ) → some_below test n ≡ true → (k : ℕ) × (test k ≡ true)
unfolding some_below
some_below-found test zero h = absurd (false≢true h)
some_below-found test (suc n) h = elim (or_cases (some_below test n) (test n) h) [
  | inl low ↦ some_below-found test n low
  | inr last ↦ (n, last)
]

-- the same, with the bound
pub some_below-within : (test : ℕ → Bool) (n : ℕ) → some_below test n ≡ true → (k : ℕ) × (k < n) × (test k ≡ true)
unfolding some_below
some_below-within test zero h = absurd (false≢true h)
some_below-within test (suc n) h = elim (or_cases (some_below test n) (test n) h) [
  | inl low ↦ (let found = some_below-within test n low in (found.0, omega (arith, found.1), found.2))
  | inr last ↦ (n, omega arith, last)
]

-- tests that agree
pub some_below-same : (test other : ℕ → Bool) → ((k : ℕ) → test k ≡ other k) → (n : ℕ) → some_below test n ≡ some_below other n
unfolding some_below
some_below-same test other same zero = refl
some_below-same test other same (suc n) = ap₂ (λ t u. t || u) (some_below-same test other same n) (same n)
