-- What is found is the first that passes a test.
use Rattle.std.proofs.Common.{◌≡◌, ℕ, zero, suc, ◌<◌, ◌⊎◌, inl, inr, Bool, true, false, List, [], ◌∷◌, Option, Some, None, refl, sym, ap, ◌∙◌, subst, arith}
use Rattle.std.specs.Prelude.{slice_get, slice_index_or, find, cond, All}
use Rattle.std.specs.List.{list_all}
use Rattle.std.proofs.lemmas.Bool.{cases_order, and_parts, and_from, both_ways, true_from_ne_false}
use Rattle.std.proofs.lemmas.Option.{slice_get-get_or, get_or_from_slice_get, slice_get_within}
use Rattle.pin_core.specs.Allowed.{IsFirstFailing}

split_none : {X : Type 0} (b : Bool) (x : X) (rest : Option X) → cond b (Some x) rest ≡ None → (b ≡ false) × (rest ≡ None)
split_none true x rest h = absurd cc
split_none false x rest h = (refl, h)

split_some : {X : Type 0} (b : Bool) (x y : X) (rest : Option X) → cond b (Some x) rest ≡ Some y → ((b ≡ true) × (x ≡ y)) ⊎ ((b ≡ false) × (rest ≡ Some y))
split_some true x y rest h = inl (refl, cc)
split_some false x y rest h = inr (refl, h)

-- where nothing is found nothing passes
pub none_passes : {X : Type 0} (p : X → Bool) (xs : List X) → find p xs ≡ None → (k : ℕ) (x : X) → slice_get xs k ≡ Some x → p x ≡ false
none_passes p [] h k x at = absurd cc
none_passes p (y ∷ ys) h zero x at = let e : y ≡ x = cc in subst (λ z. p z ≡ false) e (split_none (p y) y (find p ys) h).0
none_passes p (y ∷ ys) h (suc k) x at = none_passes p ys (split_none (p y) y (find p ys) h).1 k x at

pub none_found : {X : Type 0} (p : X → Bool) (xs : List X) → ((k : ℕ) (x : X) → slice_get xs k ≡ Some x → p x ≡ false) → find p xs ≡ None
none_found p [] h = refl
none_found p (y ∷ ys) h =
    ap (λ b. cond b (Some y) (find p ys)) (h zero y refl) ∙ none_found p ys (λ k x at. h (suc k) x at)

-- what is found is the first that passes
pub first_passes : {X : Type 0} (p : X → Bool) (xs : List X) (x : X) → find p xs ≡ Some x → (k : ℕ) × IsFirstFailing (λ y. p y ≡ false) xs k x
first_passes p [] x h = absurd cc
first_passes p (y ∷ ys) x h = elim (split_some (p y) y x (find p ys) h) [
  | inl q ↦ (zero, record { found = ap Some q.1; fails = λ bad. both_ways (p x) bad (subst (λ z. p z ≡ true) q.1 q.0); before = λ j z early at. absurd (omega (arith, early)) })
  | inr q ↦
      let rest = first_passes p ys x q.1 in (
        suc rest.0,
        record {
          found = rest.1.found;
          fails = rest.1.fails;
          before = λ j z early at. earlier p y ys (suc rest.0) q.0 (λ i w low there. rest.1.before i w (omega (arith, low)) there) j z early at;
        },
      )
]
  where
    earlier : {X : Type 0} (p : X → Bool) (y : X) (ys : List X) (k : ℕ) → p y ≡ false → ((i : ℕ) (w : X) → suc i < k → slice_get ys i ≡ Some w → p w ≡ false)
        → (j : ℕ) (z : X) → j < k → slice_get (y ∷ ys) j ≡ Some z → p z ≡ false
    earlier p y ys k bad rest zero z early at = let e : y ≡ z = cc in subst (λ w. p w ≡ false) e bad
    earlier p y ys k bad rest (suc j) z early at = rest j z early at

pub first_found : {X : Type 0} (p : X → Bool) (xs : List X) (k : ℕ) (x : X) → IsFirstFailing (λ y. p y ≡ false) xs k x → find p xs ≡ Some x
first_found p [] k x h = let at = h.found in absurd cc
first_found p (y ∷ ys) zero x h =
    let e : y ≡ x = let at = h.found in cc in
    let good : p y ≡ true = true_from_ne_false (p y) (λ bad. h.fails (subst (λ z. p z ≡ false) e bad)) in
    ap (λ b. cond b (Some y) (find p ys)) good ∙ ap Some e
first_found p (y ∷ ys) (suc k) x h =
    ap (λ b. cond b (Some y) (find p ys)) (h.before zero y (omega arith) refl)
    ∙ first_found p ys k x (record { found = h.found; fails = h.fails; before = λ j z early at. h.before (suc j) z (omega (arith, early)) at })

-- the first element for which a fact fails is the first for which an equivalent fact fails
pub failing_same : {X : Type 0} (P Q : X → Type 0) (xs : List X) (k : ℕ) (x : X) → ((y : X) → P y → Q y) → ((y : X) → Q y → P y)
    → IsFirstFailing P xs k x → IsFirstFailing Q xs k x
failing_same P Q xs k x there back h =
    record { found = h.found; fails = λ q. h.fails (back x q); before = λ j y early at. there y (h.before j y early at) }

not_later : {X : Type 0} (P : X → Type 0) (xs : List X) (k j : ℕ) (x y : X) → IsFirstFailing P xs k x → IsFirstFailing P xs j y → k < j → ⊥
not_later P xs k j x y one other early = one.fails (other.before k x early one.found)

-- only one element is the first
pub one_first : {X : Type 0} (P : X → Type 0) (xs : List X) (k j : ℕ) (x y : X) → IsFirstFailing P xs k x → IsFirstFailing P xs j y → Some x ≡ Some y
one_first P xs k j x y one other = elim (cases_order k j) [
  | inl same ↦ sym one.found ∙ (ap (slice_get xs) same ∙ other.found)
  | inr q ↦ elim q [ inl h ↦ absurd (not_later P xs k j x y one other h) | inr h ↦ absurd (not_later P xs j k y x other one h) ]
]

-- what holds of all elements, by their places
pub all_by_place : {X : Type 0} (P : X → Type 0) (xs : List X) → ((k : ℕ) (x : X) → slice_get xs k ≡ Some x → P x) → All P xs
all_by_place P xs h = λ k d below. h k (slice_index_or xs k d) (slice_get-get_or xs k d below)

pub place_by_all : {X : Type 0} (P : X → Type 0) (xs : List X) → All P xs → (k : ℕ) (x : X) → slice_get xs k ≡ Some x → P x
place_by_all P xs h k x at = subst P (get_or_from_slice_get xs k x x at) (h k x (slice_get_within xs k x at))

-- a test that all pass
pub list_all_from : {X : Type 0} (p : X → Bool) (xs : List X) → list_all p xs ≡ true → (k : ℕ) (x : X) → slice_get xs k ≡ Some x → p x ≡ true
list_all_from p [] h k x at = absurd cc
list_all_from p (y ∷ ys) h zero x at = let e : y ≡ x = cc in subst (λ z. p z ≡ true) e (and_parts _ _ h).0
list_all_from p (y ∷ ys) h (suc k) x at = list_all_from p ys (and_parts _ _ h).1 k x at

pub list_all_by : {X : Type 0} (p : X → Bool) (xs : List X) → ((k : ℕ) (x : X) → slice_get xs k ≡ Some x → p x ≡ true) → list_all p xs ≡ true
list_all_by p [] h = refl
list_all_by p (y ∷ ys) h = and_from _ _ (h zero y refl) (list_all_by p ys (λ k x at. h (suc k) x at))

-- tests that agree on all that pass another find the same
pub find_same : (t p q : ℕ → Bool) → ((x : ℕ) → t x ≡ true → p x ≡ q x) → (xs : List ℕ) → list_all t xs ≡ true → find p xs ≡ find q xs
find_same t p q same [] h = refl
find_same t p q same (x ∷ xs) h =
    let parts = and_parts _ _ h in
    ap (λ b. cond b (Some x) (find p xs)) (same x parts.0) ∙ ap (λ o. cond (q x) (Some x) o) (find_same t p q same xs parts.1)
