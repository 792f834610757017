-- What stays as it is through an entry more.
use Rattle.std.proofs.Common.{◌≡◌, ℕ, ◌≤◌, ◌⊎◌, inl, inr, List, [], ◌∷◌, ◌++◌, length, refl, sym, ap, ◌∙◌, arith}
use mathlib.Core.List.{IsPrefix}
use Rattle.board_rules.specs.declared.call.Entry.{Entry}
use Rattle.published_board.specs.Lanes.{since_after}
use Rattle.published_board.specs.Staying.{Stays}
use Rattle.published_board.proofs.Prefixes.{prefix_whole}

-- a beginning of a list with one element more is the whole, or a beginning of the list
pub prefix_cut : {A : Type 0} (xs es : List A) (e : A) → IsPrefix xs (es ++ e ∷ []) → (xs ≡ es ++ e ∷ []) ⊎ IsPrefix xs es
prefix_cut [] es e p = inr (es, refl)
prefix_cut (x ∷ []) [] e p = let head : x ≡ e = cc (p.1) in inl (λ i. head i ∷ [])
prefix_cut (x ∷ (y ∷ xs)) [] e p = absurd (cc (p.1))
prefix_cut (x ∷ xs) (d ∷ es) e p =
    let head : x ≡ d = cc (p.1) in
    elim (prefix_cut xs es e (p.0, cc (p.1))) [
      | inl whole ↦ inl (λ i. head i ∷ whole i)
      | inr part ↦ inr (part.0, λ i. head i ∷ part.1 i)
    ]

pub stays_on : {V : Type 0} (value : List Entry → V) (n : ℕ) (es : List Entry) (e : Entry) → Stays value n es → value (es ++ e ∷ []) ≡ value es → Stays value n (es ++ e ∷ [])
stays_on value n es e old same xs p le = elim (prefix_cut xs es e p) [
  | inl whole ↦ ap value whole
  | inr part ↦ old xs part le ∙ sym same
]

pub stays_new : {V : Type 0} (value : List Entry → V) (n : ℕ) (es : List Entry) → length es ≤ n → Stays value n es
stays_new value n es long xs p le = ap value (prefix_whole xs es p (omega (arith, long, le)))

-- what changed last with the last entry, or before it where that changed nothing
pub since_right : {C V : Type 0} (value : List Entry → V) (old n : ℕ) (es : List Entry) (changes : List C) → length es ≤ n → (changes ≡ [] → Stays value old es) → Stays value (since_after old n changes) es
since_right value old n es [] long kept = kept refl
since_right value old n es (c ∷ cs) long kept = stays_new value n es long
