use Rattle.std.proofs.Common.{◌≡◌, ◌≢◌, ℕ, zero, suc, ◌-◌, ◌<◌, ◌≤◌, ◌⊎◌, ◌∙◌, sym, ap, subst, arith, inl, inr, List, [], ◌∷◌, ◌++◌, length, slice_set, slice_index, get_or, Contains}
use Rattle.std.proofs.lemmas.Bool.{cases_eq}
use Rattle.std.proofs.lemmas.List.{get_or-set_same, get_or-set_other}
use Rattle.std.proofs.lemmas.List.Elements.{Contains-push_cases, Contains-append_left, Contains-push}

-- these customers are recorded at a vehicle
abbrev pub AreSettled : List ℕ → ℕ → List ℕ → Type 0
AreSettled customers v homes = (c : ℕ) → Contains customers c → slice_index homes (c - 1) ≡ v

-- and all others as before
abbrev pub OthersStay : List ℕ → List ℕ → List ℕ → Type 0
OthersStay customers before homes = (c : ℕ) → 1 ≤ c → ¬ Contains customers c → slice_index homes (c - 1) ≡ slice_index before (c - 1)

settled_at : (front homes : List ℕ) (x v c : ℕ) → x - 1 < length homes → AreSettled front v homes
    → Contains front c ⊎ (x ≡ c) → (c - 1 ≡ x - 1) ⊎ (c - 1 ≢ x - 1) → slice_index (slice_set homes (x - 1) v) (c - 1) ≡ v
settled_at front homes x v c within done h (inl e) = subst (λ (n : ℕ). slice_index (slice_set homes (x - 1) v) n ≡ v) (sym e) (get_or-set_same homes (x - 1) v 0 within)
settled_at front homes x v c within done (inl h) (inr e) = get_or-set_other homes (x - 1) (c - 1) v 0 e ∙ done c h
settled_at front homes x v c within done (inr h) (inr e) = absurd (e (ap (λ (n : ℕ). n - 1) (sym h)))

pub settled_more : (front homes : List ℕ) (x v : ℕ) → x - 1 < length homes → AreSettled front v homes → AreSettled (front ++ x ∷ []) v (slice_set homes (x - 1) v)
settled_more front homes x v within done c h = settled_at front homes x v c within done (Contains-push_cases front x c h) (cases_eq (c - 1) (x - 1))

pub others_more : (front before homes : List ℕ) (x v : ℕ) → 1 ≤ x → OthersStay front before homes → OthersStay (front ++ x ∷ []) before (slice_set homes (x - 1) v)
others_more front before homes x v one stay c low out =
    let other : c ≢ x = λ e. out (subst (λ (n : ℕ). Contains (front ++ x ∷ []) n) (sym e) (Contains-push front x)) in
    let away : c - 1 ≢ x - 1 = λ e. other (omega arith) in
    get_or-set_other homes (x - 1) (c - 1) v 0 away ∙ stay c low (λ h. out (Contains-append_left front (x ∷ []) c h))

-- a number of a list is small after a small one was written
pub get_or-set-le : (xs : List ℕ) (i x k m : ℕ) → x ≤ m → get_or xs k 0 ≤ m → get_or (slice_set xs i x) k 0 ≤ m
get_or-set-le [] i x k m h l = l
get_or-set-le (y ∷ ys) zero x zero m h l = h
get_or-set-le (y ∷ ys) zero x (suc k) m h l = l
get_or-set-le (y ∷ ys) (suc i) x zero m h l = l
get_or-set-le (y ∷ ys) (suc i) x (suc k) m h l = get_or-set-le ys i x k m h l
