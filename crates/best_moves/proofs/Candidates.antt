-- Rows of candidates of whatever kind.
use Rattle.std.proofs.Common.{◌≡◌, ℕ, ◌+◌, ◌-◌, ◌<◌, ◌≤◌, arith, refl, subst, [], ◌∷◌, Option}
use Rattle.move_core.specs.declared.moves.Move.{Move}
use Rattle.move_core.specs.declared.moves.Move.TheVariants.{Shift}
use Rattle.best_moves.specs.declared.kinds.Kind.{Kind}
use Rattle.best_moves.specs.declared.kinds.Kind.TheVariants.{Shifts, Swaps, Reverses, Crosses}
use Rattle.best_moves.specs.Best.{numbers_of}
use Rattle.best_moves.specs.Rows.{move_at, offset_of, IsCandidate}
use Rattle.best_moves.specs.Search.{gain_of, IsBestSoFar, IsNext}
use Rattle.best_moves.specs.Searched.{Searched, CountsIn, IsSearch, new_cost, old_cost}
use Rattle.best_moves.proofs.Firsts.{best_up_to}
use Rattle.best_moves.proofs.Shifts.{shift_next}
use Rattle.best_moves.proofs.PairRows.{swap_next, reverse_next, cross_next}

module _ (q : Searched) (is : IsSearch q) where
  -- from one candidate to the next
  pub kind_next : (kind : Kind) (k : ℕ) → offset_of kind ≤ k → IsNext (CountsIn q) (move_at q kind k) (numbers_of (move_at q kind (k + 1)))
  kind_next (Shifts p n o) k low =
      let e : k - o + 1 + 1 ≡ k + 1 - o + 1 = omega arith in
      subst (λ (a : ℕ). IsNext (CountsIn q) (Shift q.v p n q.w (k - o + 1)) (1 ∷ q.v ∷ p ∷ n ∷ q.w ∷ a ∷ [])) e (shift_next q is p n (k - o + 1))
  kind_next (Swaps p) k low = swap_next q is p k
  kind_next (Reverses p) k low = reverse_next q is p k
  kind_next (Crosses p) k low = cross_next q is p k

  -- and over some of them, none of which gains more than is wanted
  pub row_past : (kind : Kind) (a b lost gained wanted : ℕ) (loses gains : ℕ → ℕ) (best : Option (Move × ℕ)) → offset_of kind ≤ a → a ≤ b
      → ((k : ℕ) → a ≤ k → k < b → IsCandidate q (move_at q kind k) (lost + loses k) (gained + gains k))
      → ((k : ℕ) → k < b → a ≤ k → lost + loses k ≤ wanted + gains k) → wanted ≡ gained + gain_of best
      → IsBestSoFar q (numbers_of (move_at q kind a)) best → IsBestSoFar q (numbers_of (move_at q kind b)) best
  row_past kind a b lost gained wanted loses gains best low order are none most g =
      best_up_to (CountsIn q) (new_cost q) (old_cost q) (λ k. move_at q kind k) (λ k. numbers_of (move_at q kind k)) best
      (λ m c. c.lower) (λ k. refl) a b order (λ k h. kind_next kind k (omega arith)) (λ k h l counts. worse k h l) g
    where
      worse : (k : ℕ) → a ≤ k → k < b → old_cost q - new_cost q (move_at q kind k) ≤ gain_of best
      worse k h l =
          let saving = (are k h l).saving in
          let less = none k l h in
          omega arith

-- a candidate by what was computed of it
pub same_candidate : (q : Searched) (mv other : Move) (fixed fixed_gained lost gained loses gains : ℕ) → mv ≡ other → lost ≡ loses → gained ≡ gains
    → IsCandidate q other (fixed + loses) (fixed_gained + gains) → IsCandidate q mv (fixed + lost) (fixed_gained + gained)
same_candidate q mv other fixed fixed_gained lost gained loses gains e l g h = rw (e, l, g) h
