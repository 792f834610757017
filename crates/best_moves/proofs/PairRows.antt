use Rattle.std.proofs.Common.{◌≡◌, ◌≢◌, ℕ, ◌+◌, ◌-◌, ◌<◌, ◌≤◌, arith, refl, subst, [], ◌∷◌, length, Option}
use Rattle.std.proofs.lemmas.Bool.{ne_eqb, eq-eqb}
use Rattle.plan_core.specs.Plan.{route_at}
use Rattle.move_core.specs.declared.moves.Move.{Move}
use Rattle.move_core.specs.declared.moves.Move.TheVariants.{Swap, Reverse, Cross}
use Rattle.best_moves.specs.Search.{gain_of, IsBestSoFar, IsNext}
use Rattle.best_moves.specs.Searched.{Searched, CountsIn, IsSearch, new_cost, old_cost}
use Rattle.best_moves.proofs.Firsts.{best_up_to}
use Rattle.best_moves.proofs.Pairs.{pair_next, pairs_begin, pairs_end, pairs_skipped, pair_row, pair_row_done}
use Rattle.best_moves.proofs.Orders.{swaps, reverses, crosses, swap_from, reverse_from, cross_from}

-- where the second place of a swap begins
pub swap_apart : (v w x : ℕ) → v ≢ w → 1 ≡ swap_from v w x
swap_apart v w x o = rw (ne_eqb v w o) refl

pub swap_behind : (v w x : ℕ) → v ≡ w → x + 1 ≡ swap_from v w x
swap_behind v w x e = rw (eq-eqb v w e) refl

module _ (q : Searched) (is : IsSearch q) where
  -- the rows of swaps
  pub swap_next : (x y : ℕ) → IsNext (CountsIn q) (Swap q.v x q.w y) (2 ∷ q.v ∷ x ∷ q.w ∷ (y + 1) ∷ [])
  swap_next x y = pair_next (CountsIn q) (new_cost q) (old_cost q) 2 q.v (q.w ∷ []) (λ x y. Swap q.v x q.w y) 1 (length (route_at q.view.routes q.v)) (swap_from q.v q.w) (length (route_at q.view.routes q.w)) (swaps q is) x y

  pub swap_beside : (x : ℕ) → IsNext (CountsIn q) (Swap q.v x q.w (x + 1)) (2 ∷ q.v ∷ x ∷ q.w ∷ (x + 2) ∷ [])
  swap_beside x =
      let e : x + 1 + 1 ≡ x + 2 = omega arith in
      subst (λ (k : ℕ). IsNext (CountsIn q) (Swap q.v x q.w (x + 1)) (2 ∷ q.v ∷ x ∷ q.w ∷ k ∷ [])) e (swap_next x (x + 1))

  pub swaps_past : (x a b : ℕ) (best : Option (Move × ℕ)) → a ≤ b
      → ((k : ℕ) → a ≤ k → k < b → CountsIn q (Swap q.v x q.w k) → old_cost q - new_cost q (Swap q.v x q.w k) ≤ gain_of best)
      → IsBestSoFar q (2 ∷ q.v ∷ x ∷ q.w ∷ a ∷ []) best → IsBestSoFar q (2 ∷ q.v ∷ x ∷ q.w ∷ b ∷ []) best
  swaps_past x a b best order worse g =
      best_up_to (CountsIn q) (new_cost q) (old_cost q) (λ k. Swap q.v x q.w k) (λ k. 2 ∷ q.v ∷ x ∷ q.w ∷ k ∷ []) best
      (λ m c. c.lower) (λ k. refl) a b order (λ k h. swap_next x k) worse g

  pub swaps_begin : (best : Option (Move × ℕ)) → IsBestSoFar q (2 ∷ []) best → IsBestSoFar q (2 ∷ q.v ∷ 1 ∷ []) best
  swaps_begin best g = pairs_begin (CountsIn q) (new_cost q) (old_cost q) 2 q.v (q.w ∷ []) (λ x y. Swap q.v x q.w y) 1 (length (route_at q.view.routes q.v)) (swap_from q.v q.w) (length (route_at q.view.routes q.w)) (swaps q is) best g

  pub swaps_end : (x : ℕ) (best : Option (Move × ℕ)) → length (route_at q.view.routes q.v) < x → IsBestSoFar q (2 ∷ q.v ∷ x ∷ []) best → IsBestSoFar q (3 ∷ []) best
  swaps_end x best h g = pairs_end (CountsIn q) (new_cost q) (old_cost q) 2 q.v (q.w ∷ []) (λ x y. Swap q.v x q.w y) 1 (length (route_at q.view.routes q.v)) (swap_from q.v q.w) (length (route_at q.view.routes q.w)) (swaps q is) x best h g

  pub swap_row : (x y : ℕ) (best : Option (Move × ℕ)) → y ≡ (swap_from q.v q.w) x → IsBestSoFar q (2 ∷ q.v ∷ x ∷ []) best → IsBestSoFar q (2 ∷ q.v ∷ x ∷ q.w ∷ y ∷ []) best
  swap_row x y best h g = pair_row (CountsIn q) (new_cost q) (old_cost q) 2 q.v (q.w ∷ []) (λ x y. Swap q.v x q.w y) 1 (length (route_at q.view.routes q.v)) (swap_from q.v q.w) (length (route_at q.view.routes q.w)) (swaps q is) x y best h g

  pub swap_row_done : (x y : ℕ) (best : Option (Move × ℕ)) → length (route_at q.view.routes q.w) < y → IsBestSoFar q (2 ∷ q.v ∷ x ∷ q.w ∷ y ∷ []) best → IsBestSoFar q (2 ∷ q.v ∷ (x + 1) ∷ []) best
  swap_row_done x y best h g = pair_row_done (CountsIn q) (new_cost q) (old_cost q) 2 q.v (q.w ∷ []) (λ x y. Swap q.v x q.w y) 1 (length (route_at q.view.routes q.v)) (swap_from q.v q.w) (length (route_at q.view.routes q.w)) (swaps q is) x y best h g

  -- the rows of reverses
  pub reverse_next : (x y : ℕ) → IsNext (CountsIn q) (Reverse q.v x y) (3 ∷ q.v ∷ x ∷ (y + 1) ∷ [])
  reverse_next x y = pair_next (CountsIn q) (new_cost q) (old_cost q) 3 q.v [] (λ x y. Reverse q.v x y) 1 (length (route_at q.view.routes q.v)) reverse_from (length (route_at q.view.routes q.v)) (reverses q is) x y

  pub reverses_past : (x a b : ℕ) (best : Option (Move × ℕ)) → a ≤ b
      → ((k : ℕ) → a ≤ k → k < b → CountsIn q (Reverse q.v x k) → old_cost q - new_cost q (Reverse q.v x k) ≤ gain_of best)
      → IsBestSoFar q (3 ∷ q.v ∷ x ∷ a ∷ []) best → IsBestSoFar q (3 ∷ q.v ∷ x ∷ b ∷ []) best
  reverses_past x a b best order worse g =
      best_up_to (CountsIn q) (new_cost q) (old_cost q) (λ k. Reverse q.v x k) (λ k. 3 ∷ q.v ∷ x ∷ k ∷ []) best
      (λ m c. c.lower) (λ k. refl) a b order (λ k h. reverse_next x k) worse g

  pub reverses_begin : (best : Option (Move × ℕ)) → IsBestSoFar q (3 ∷ []) best → IsBestSoFar q (3 ∷ q.v ∷ 1 ∷ []) best
  reverses_begin best g = pairs_begin (CountsIn q) (new_cost q) (old_cost q) 3 q.v [] (λ x y. Reverse q.v x y) 1 (length (route_at q.view.routes q.v)) reverse_from (length (route_at q.view.routes q.v)) (reverses q is) best g

  pub reverses_end : (x : ℕ) (best : Option (Move × ℕ)) → length (route_at q.view.routes q.v) < x → IsBestSoFar q (3 ∷ q.v ∷ x ∷ []) best → IsBestSoFar q (4 ∷ []) best
  reverses_end x best h g = pairs_end (CountsIn q) (new_cost q) (old_cost q) 3 q.v [] (λ x y. Reverse q.v x y) 1 (length (route_at q.view.routes q.v)) reverse_from (length (route_at q.view.routes q.v)) (reverses q is) x best h g

  pub reverse_row : (x y : ℕ) (best : Option (Move × ℕ)) → y ≡ reverse_from x → IsBestSoFar q (3 ∷ q.v ∷ x ∷ []) best → IsBestSoFar q (3 ∷ q.v ∷ x ∷ y ∷ []) best
  reverse_row x y best h g = pair_row (CountsIn q) (new_cost q) (old_cost q) 3 q.v [] (λ x y. Reverse q.v x y) 1 (length (route_at q.view.routes q.v)) reverse_from (length (route_at q.view.routes q.v)) (reverses q is) x y best h g

  pub reverse_row_done : (x y : ℕ) (best : Option (Move × ℕ)) → length (route_at q.view.routes q.v) < y → IsBestSoFar q (3 ∷ q.v ∷ x ∷ y ∷ []) best → IsBestSoFar q (3 ∷ q.v ∷ (x + 1) ∷ []) best
  reverse_row_done x y best h g = pair_row_done (CountsIn q) (new_cost q) (old_cost q) 3 q.v [] (λ x y. Reverse q.v x y) 1 (length (route_at q.view.routes q.v)) reverse_from (length (route_at q.view.routes q.v)) (reverses q is) x y best h g

  -- the rows of crosses
  pub cross_next : (x y : ℕ) → IsNext (CountsIn q) (Cross q.v x q.w y) (4 ∷ q.v ∷ x ∷ q.w ∷ (y + 1) ∷ [])
  cross_next x y = pair_next (CountsIn q) (new_cost q) (old_cost q) 4 q.v (q.w ∷ []) (λ x y. Cross q.v x q.w y) 0 (length (route_at q.view.routes q.v)) cross_from (length (route_at q.view.routes q.w)) (crosses q is) x y

  pub crosses_past : (x a b : ℕ) (best : Option (Move × ℕ)) → a ≤ b
      → ((k : ℕ) → a ≤ k → k < b → CountsIn q (Cross q.v x q.w k) → old_cost q - new_cost q (Cross q.v x q.w k) ≤ gain_of best)
      → IsBestSoFar q (4 ∷ q.v ∷ x ∷ q.w ∷ a ∷ []) best → IsBestSoFar q (4 ∷ q.v ∷ x ∷ q.w ∷ b ∷ []) best
  crosses_past x a b best order worse g =
      best_up_to (CountsIn q) (new_cost q) (old_cost q) (λ k. Cross q.v x q.w k) (λ k. 4 ∷ q.v ∷ x ∷ q.w ∷ k ∷ []) best
      (λ m c. c.lower) (λ k. refl) a b order (λ k h. cross_next x k) worse g

  crosses_begin : (best : Option (Move × ℕ)) → IsBestSoFar q (4 ∷ []) best → IsBestSoFar q (4 ∷ q.v ∷ 0 ∷ []) best
  crosses_begin best g = pairs_begin (CountsIn q) (new_cost q) (old_cost q) 4 q.v (q.w ∷ []) (λ x y. Cross q.v x q.w y) 0 (length (route_at q.view.routes q.v)) cross_from (length (route_at q.view.routes q.w)) (crosses q is) best g

  -- those that keep too few of the first vehicle
  pub crosses_from : (x : ℕ) (best : Option (Move × ℕ)) → ((k l : ℕ) → k < x → CountsIn q (Cross q.v k q.w l) → ⊥) → IsBestSoFar q (4 ∷ []) best → IsBestSoFar q (4 ∷ q.v ∷ x ∷ []) best
  crosses_from x best none g =
      pairs_skipped (CountsIn q) (new_cost q) (old_cost q) 4 q.v (q.w ∷ []) (λ x y. Cross q.v x q.w y) 0 (length (route_at q.view.routes q.v)) cross_from (length (route_at q.view.routes q.w)) (crosses q is)
      0 x best (omega arith) (λ k l a h counts. none k l h counts) (crosses_begin best g)

  pub crosses_end : (x : ℕ) (best : Option (Move × ℕ)) → length (route_at q.view.routes q.v) < x → IsBestSoFar q (4 ∷ q.v ∷ x ∷ []) best → IsBestSoFar q (5 ∷ []) best
  crosses_end x best h g = pairs_end (CountsIn q) (new_cost q) (old_cost q) 4 q.v (q.w ∷ []) (λ x y. Cross q.v x q.w y) 0 (length (route_at q.view.routes q.v)) cross_from (length (route_at q.view.routes q.w)) (crosses q is) x best h g

  pub cross_row : (x y : ℕ) (best : Option (Move × ℕ)) → y ≡ cross_from x → IsBestSoFar q (4 ∷ q.v ∷ x ∷ []) best → IsBestSoFar q (4 ∷ q.v ∷ x ∷ q.w ∷ y ∷ []) best
  cross_row x y best h g = pair_row (CountsIn q) (new_cost q) (old_cost q) 4 q.v (q.w ∷ []) (λ x y. Cross q.v x q.w y) 0 (length (route_at q.view.routes q.v)) cross_from (length (route_at q.view.routes q.w)) (crosses q is) x y best h g

  pub cross_row_done : (x y : ℕ) (best : Option (Move × ℕ)) → length (route_at q.view.routes q.w) < y → IsBestSoFar q (4 ∷ q.v ∷ x ∷ q.w ∷ y ∷ []) best → IsBestSoFar q (4 ∷ q.v ∷ (x + 1) ∷ []) best
  cross_row_done x y best h g = pair_row_done (CountsIn q) (new_cost q) (old_cost q) 4 q.v (q.w ∷ []) (λ x y. Cross q.v x q.w y) 0 (length (route_at q.view.routes q.v)) cross_from (length (route_at q.view.routes q.w)) (crosses q is) x y best h g
