-- Cells that are filled one by one.
use Rattle.std.proofs.Common.{◌≡◌, ℕ, suc, ◌+◌, ◌-◌, ◌<◌, ◌≤◌, List, [], ◌∷◌, ◌++◌, length, length-append, refl, sym, ap, ◌∙◌, arith, inl, inr}
use Rattle.std.specs.Prelude.{slice_index_or}
use Rattle.std.proofs.Math.Seq.{get_or-append_seam}
use Rattle.std.proofs.lemmas.Bool.{cases_eq}
use Rattle.std.proofs.lemmas.List.{get_or_append_left}
use Rattle.published_board.specs.Written.{AreCells}

pub cells_none : {V : Type 0} (none : V) (value : ℕ → V) → AreCells 0 none value []
cells_none none value = record { sized = refl; each = λ k low high. absurd (omega (arith, low, high)) }

pub cells_more : {V : Type 0} (n : ℕ) (none : V) (value : ℕ → V) (cells : List V) (x : V) → x ≡ value (n + 1) → AreCells n none value cells → AreCells (n + 1) none value (cells ++ x ∷ [])
cells_more n none value cells x is a = record {
  sized = length-append cells (x ∷ []) ∙ ap (λ (m : ℕ). m + 1) a.sized;
  each = λ k low high.
      let sized = a.sized in
      elim (cases_eq k (n + 1)) [
        | inl same ↦
            let at : k - 1 ≡ length cells = omega (arith, same, sized) in
            ap (λ (m : ℕ). slice_index_or (cells ++ x ∷ []) m none) at ∙ (get_or-append_seam cells x [] none ∙ (is ∙ ap value (sym same)))
        | inr other ↦
            get_or_append_left cells (x ∷ []) none (k - 1) (omega (arith, low, high, other, sized)) ∙ a.each k low (omega (arith, high, other))
      ];
}

-- lists that are one at each place
list_same : {X : Type 0} (none : X) (xs ys : List X) → length xs ≡ length ys → ((k : ℕ) → k < length ys → slice_index_or xs k none ≡ slice_index_or ys k none) → xs ≡ ys
list_same none [] [] e h = refl
list_same none [] (y ∷ ys) e h = absurd (omega (arith, e))
list_same none (x ∷ xs) [] e h = absurd (omega (arith, e))
list_same none (x ∷ xs) (y ∷ ys) e h =
    let heads : x ≡ y = h 0 (omega arith) in
    let tails : xs ≡ ys = list_same none xs ys (omega (arith, e)) (λ k below. h (suc k) (omega (arith, below))) in
    (λ i. heads i ∷ tails i)

-- cells are the list whose values they are
pub same_cells : {V : Type 0} (n : ℕ) (none : V) (xs cells : List V) → length xs ≡ n → AreCells n none (λ k. slice_index_or xs (k - 1) none) cells → cells ≡ xs
same_cells n none xs cells sized are =
    list_same none cells xs (are.sized ∙ sym sized) (λ k below.
    let at : k + 1 - 1 ≡ k = omega arith in
    ap (λ (m : ℕ). slice_index_or cells m none) (sym at) ∙ (are.each (k + 1) (omega arith) (omega (arith, below, sized)) ∙ ap (λ (m : ℕ). slice_index_or xs m none) at))

-- how far a loop over the numbers below another one has come
pub from_one : (n : ℕ) → 1 ≤ n + 1
from_one n = omega arith

pub next_within : (n m most : ℕ) → n < m → most ≡ m → n + 1 ≤ most
next_within n m most below is = omega arith

pub at_end : (n m : ℕ) → m ≤ n → n ≤ m → n ≡ m
at_end n m over within = omega arith
