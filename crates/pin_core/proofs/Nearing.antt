-- How a customer is searched on a route, from an index outwards.
use Rattle.std.proofs.Common.{◌≡◌, ℕ, ◌+◌, ◌-◌, ◌<◌, ◌≤◌, ◌⊎◌, ◌↔◌, ◌∙◌, inl, inr, refl, subst, arith, List, length, get_or, true, false, IsTrue, Contains}
use Rattle.std.specs.Prelude.{min}
use Rattle.std.proofs.lemmas.Bool.{false≢true, cases_eq}
use Rattle.std.proofs.lemmas.List.{get_or_default}

-- the customer is at no index that is nearer
abbrev pub IsFar : List ℕ → ℕ → ℕ → ℕ → Type 0
IsFar xs c from away = (k : ℕ) → k < length xs → from < k + away → k < from + away → get_or xs k 0 ≡ c → ⊥

pub first_far : (xs : List ℕ) (c from : ℕ) → IsFar xs c from 0
first_far xs c from k h low high e = absurd (omega arith)

pub next_far : (xs : List ℕ) (c from away : ℕ) → IsFar xs c from away → (away ≤ from → get_or xs (from - away) 0 ≡ c → ⊥) → (from + away < length xs → get_or xs (from + away) 0 ≡ c → ⊥)
    → IsFar xs c from (away + 1)
next_far xs c from away far before after k h low high e = split (cases_eq k (from + away)) (cases_eq (k + away) from)
  where
    split : (k ≡ from + away) ⊎ (k ≡ from + away → ⊥) → (k + away ≡ from) ⊎ (k + away ≡ from → ⊥) → ⊥
    split (inl same) other = after (omega arith) (subst (λ (n : ℕ). get_or xs n 0 ≡ c) same e)
    split (inr o) (inl same) =
        let back : k ≡ from - away = omega arith in
        before (omega arith) (subst (λ (n : ℕ). get_or xs n 0 ≡ c) back e)
    split (inr o) (inr p) = far k h (omega arith) (omega arith) e

pub not_before : (n m : ℕ) → n ≤ m → m < n → ⊥
not_before n m h l = absurd (omega arith)

-- where the search begins
pub start_before : (a b x n : ℕ) → x ≡ min a b → b ≡ n - 1 → x ≤ n - 1
start_before a b x n e f = omega arith

pub start_within : (x n away : ℕ) → x ≤ n - 1 → away < n → x - away < n
start_within x n away start h = omega arith

-- what is answered
pub found_at : (xs : List ℕ) (c k : ℕ) → k < length xs → get_or xs k 0 ≡ c → IsTrue true ↔ Contains xs c
found_at xs c k h e = (λ _. (k, h, get_or_default xs k c 0 h ∙ e), λ _. refl)

pub found_nowhere : (xs : List ℕ) (c from away : ℕ) → from ≤ length xs - 1 → length xs ≤ away → IsFar xs c from away → IsTrue false ↔ Contains xs c
found_nowhere xs c from away start end far = (λ t. absurd (false≢true t), λ found. absurd (out found))
  where
    out : Contains xs c → ⊥
    out (k, h, e) = far k h (omega arith) (omega arith) (get_or_default xs k 0 c h ∙ e)
