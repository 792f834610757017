-- Cells that changes were written into are those of the values afterwards.
use Rattle.std.proofs.Common.{◌≡◌, ◌≢◌, ℕ, zero, suc, ◌-◌, ◌<◌, ◌≤◌, ◌⊎◌, inl, inr, List, [], ◌∷◌, length, Contains, Option, Some, None, length-set, refl, sym, ap, ◌∙◌, arith}
use Rattle.std.specs.Prelude.{slice_index_or, slice_set}
use Rattle.std.proofs.lemmas.Bool.{cases_eq}
use Rattle.std.proofs.lemmas.List.{get_or-set_same, get_or-set_other}
use Rattle.board_rules.specs.Delta.{AreChangesOf}
use Rattle.published_board.specs.Written.{AreCells, written}

module _ {X : Type 0} where
  pub first : (x : X) (xs : List X) → Contains (x ∷ xs) x
  first x xs = (0, omega arith, refl)

  pub later : (x y : X) (xs : List X) → Contains xs y → Contains (x ∷ xs) y
  later x y xs h = let lt = h.1 in (suc h.0, omega arith, h.2)

  pub first_or_later : (x y : X) (xs : List X) → Contains (x ∷ xs) y → (x ≡ y) ⊎ Contains xs y
  first_or_later x y xs h = by_place h.0 h.1 h.2
    where
      by_place : (k : ℕ) → k < length (x ∷ xs) → slice_index_or (x ∷ xs) k y ≡ y → (x ≡ y) ⊎ Contains xs y
      by_place zero lt e = inl e
      by_place (suc k) lt e = inr (k, omega (arith, lt), e)

  pub none_in : (x : X) → Contains (let xs : List X = [] in xs) x → ⊥
  none_in x h = let lt = h.1 in absurd (omega arith)

-- ---- values that are one or not

abbrev pub Tests : Type 0 → Type 0
Tests V = (x y : V) → (x ≡ y) ⊎ (x ≢ y)

pub test_number : Tests ℕ
test_number x y = cases_eq x y

pub test_option : {V : Type 0} → Tests V → Tests (Option V)
test_option test None None = inl refl
test_option test None (Some y) = inr (λ e. absurd (cc e))
test_option test (Some x) None = inr (λ e. absurd (cc e))
test_option test (Some x) (Some y) = elim (test x y) [
  | inl same ↦ inl (ap Some same)
  | inr other ↦ inr (λ e. other (cc e))
]

pub test_pair : Tests (ℕ × ℕ)
test_pair x y = elim (cases_eq x.0 y.0) [
  | inl a ↦ elim (cases_eq x.1 y.1) [
    | inl b ↦ inl (λ i. (a i, b i))
    | inr b ↦ inr (λ e. b (ap (λ (p : ℕ × ℕ). p.1) e))
  ]
  | inr a ↦ inr (λ e. a (ap (λ (p : ℕ × ℕ). p.0) e))
]

-- ---- written cells

module _ {V : Type 0} where
  pub sized_written : (cells : List V) (changes : List (ℕ × V)) → length (written cells changes) ≡ length cells
  sized_written cells [] = refl
  sized_written cells (c ∷ cs) = sized_written (slice_set cells (c.0 - 1) c.1) cs ∙ length-set cells (c.0 - 1) c.1

  -- a cell whose changes all have one value, and which has that value where there is none, has that value afterwards
  written_at : (none : V) (k : ℕ) (y : V) (changes : List (ℕ × V)) (cells : List V) → 1 ≤ k → k ≤ length cells
      → ((j : ℕ) (v : V) → Contains changes (j, v) → 1 ≤ j)
      → ((v : V) → Contains changes (k, v) → v ≡ y)
      → (slice_index_or cells (k - 1) none ≡ y) ⊎ Contains changes (k, y)
      → slice_index_or (written cells changes) (k - 1) none ≡ y
  written_at none k y [] cells low high from one now = elim now [
    | inl e ↦ e
    | inr at ↦ absurd (none_in (k, y) at)
  ]
  written_at none k y (c ∷ cs) cells low high from one now =
      let next : List V = slice_set cells (c.0 - 1) c.1 in
      let sized : length next ≡ length cells = length-set cells (c.0 - 1) c.1 in
      let start : 1 ≤ c.0 = from c.0 c.1 (first c cs) in
      elim (cases_eq c.0 k) [
        | inl same ↦
            let value : c.1 ≡ y = one c.1 (rw (sym same) (first c cs)) in
            let set : slice_index_or next (c.0 - 1) none ≡ c.1 = get_or-set_same cells (c.0 - 1) c.1 none (omega (arith, same, low, high)) in
            written_at none k y cs next low (omega (arith, sized, high)) (λ j v at. from j v (later c (j, v) cs at)) (λ v at. one v (later c (k, v) cs at))
            (inl (ap (λ (n : ℕ). slice_index_or next (n - 1) none) (sym same) ∙ (set ∙ value)))
        | inr other ↦
            let kept : slice_index_or next (k - 1) none ≡ slice_index_or cells (k - 1) none = get_or-set_other cells (c.0 - 1) (k - 1) c.1 none (λ e. other (omega (arith, e, start, low))) in
            written_at none k y cs next low (omega (arith, sized, high)) (λ j v at. from j v (later c (j, v) cs at)) (λ v at. one v (later c (k, v) cs at))
            (elim now [
              | inl e ↦ inl (kept ∙ e)
              | inr at ↦ elim (first_or_later c (k, y) cs at) [
                | inl here ↦ absurd (other (ap (λ (p : ℕ × V). p.0) here))
                | inr there ↦ inr there
              ]
            ])
      ]

  pub written_right : (n : ℕ) (none : V) (old new : ℕ → V) (cells : List V) (changes : List (ℕ × V)) → Tests V
      → AreCells n none old cells → AreChangesOf n old new changes → AreCells n none new (written cells changes)
  written_right n none old new cells changes test a d = record {
    sized = sized_written cells changes ∙ a.sized;
    each = λ k low high.
        let sized = a.sized in
        written_at none k (new k) changes cells low (omega (arith, sized, high)) (λ j v at. (d.made j v at).0) (λ v at. (d.made k v at).2)
        (elim (test (new k) (old k)) [
          | inl same ↦ inl (a.each k low high ∙ sym same)
          | inr other ↦ inr (d.all k low high other)
        ]);
  }
