use Rattle.std.proofs.Common.{◌≡◌, ◌≢◌, ℕ, ◌+◌, ◌<◌, ◌≤◌, ◌⊎◌, inl, inr, refl, subst, arith, [], ◌∷◌, length, Option, Some, None, MatchOption, true, ◌==◌, if◌then◌else◌}
use Rattle.std.proofs.lemmas.Bool.{ne_eqb, eq-eqb, cases_eq}
use Rattle.plan_core.specs.Plan.{route_at}
use Rattle.move_core.specs.declared.moves.Move.{Move}
use Rattle.move_core.specs.declared.moves.Move.TheVariants.{Insert, Remove, Shift, Swap, Reverse, Cross}
use Rattle.move_core.specs.Moves.{is_possible}
use Rattle.best_moves.specs.Best.{numbers_of, IsLower}
use Rattle.best_moves.specs.Search.{IsBestSoFar}
use Rattle.best_moves.specs.Searched.{Searched, CountsIn, IsBestOf, IsIdleOf, IsSearch, new_cost, old_cost}
use Rattle.best_moves.proofs.KindNumbers.{one_two, one_three, one_four, one_five, two_three, two_four, two_five, three_four, three_five, four_five, not_below, later}
use Rattle.best_moves.proofs.Firsts.{best_on, best_kept}
use Rattle.best_moves.proofs.Pairs.{IsKind, IsPair, pair_next}

none_below : (x : ℕ) → 0 ≤ x
none_below x = omega arith

apart : (x y : ℕ) → x ≤ y → y < x → ⊥
apart x y h k = absurd (omega arith)

reverses_high : (i j n : ℕ) → i < j → j ≤ n → i ≤ n
reverses_high i j n order high = omega arith

reverses_from : (i j : ℕ) → i < j → i + 1 ≤ j
reverses_from i j order = omega arith

-- where the second place of a swap begins
abbrev pub swap_from : ℕ → ℕ → ℕ → ℕ
swap_from v w x = if v == w then x + 1 else 1

abbrev pub reverse_from : ℕ → ℕ
reverse_from x = x + 1

abbrev pub cross_from : ℕ → ℕ
cross_from x = 0

module _ (q : Searched) (is : IsSearch q) where
  -- the swaps near two vehicles, or one
  pub swaps : IsKind (CountsIn q) 2 q.v (q.w ∷ []) (λ x y. Swap q.v x q.w y) 1 (length (route_at q.view.routes q.v)) (swap_from q.v q.w) (length (route_at q.view.routes q.w))
  swaps = record { numbers = λ x y. refl; shape = shape }
    where
      from : (p a : ℕ) → (q.v ≡ q.w → p < a) → 1 ≤ a → (q.v ≡ q.w) ⊎ (q.v ≡ q.w → ⊥) → swap_from q.v q.w p ≤ a
      from p a order low (inl e) = rw (eq-eqb q.v q.w e) (reverses_from p a (order e))
      from p a order low (inr o) = rw (ne_eqb q.v q.w o) low

      shape : (mv : Move) → CountsIn q mv → IsLower (numbers_of mv) ((2 + 1) ∷ [])
          → IsLower (numbers_of mv) (2 ∷ []) ⊎ IsPair (λ x y. Swap q.v x q.w y) 1 (length (route_at q.view.routes q.v)) (swap_from q.v q.w) (length (route_at q.view.routes q.w)) mv
      shape (Insert c u p) counts h = absurd counts.near
      shape (Remove u p) counts h = absurd counts.near
      shape (Shift u p n x a) counts h = inl (inl one_two)
      shape (Swap u p x a) counts h =
          let can = subst (λ (z : ℕ). is_possible q.setting.customers q.view.routes (Swap q.v p z a) ≡ true) counts.near.1 (subst (λ (z : ℕ). is_possible q.setting.customers q.view.routes (Swap z p x a) ≡ true) counts.near.0 counts.possible) in
          let f = (is.laws.possible.swap q.setting.customers q.view.routes q.v p q.w a).0 can in
          inr (record {
            x = p;
            y = a;
            is = rw (counts.near.0, counts.near.1) refl;
            are = record { low = f.place.low; high = f.place.high; from = from p a counts.near.2 f.at.low (cases_eq q.v q.w); to = f.at.high };
          })
      shape (Reverse u i j) counts h = absurd (none h)
        where
          none : IsLower (numbers_of (Reverse u i j)) (3 ∷ []) → ⊥
          none (inl h) = not_below 3 h
          none (inr (e, h)) = h
      shape (Cross u k x l) counts h = absurd (later 4 3 three_four h)

  -- the reverses
  pub reverses : IsKind (CountsIn q) 3 q.v [] (λ x y. Reverse q.v x y) 1 (length (route_at q.view.routes q.v)) reverse_from (length (route_at q.view.routes q.v))
  reverses = record { numbers = λ x y. refl; shape = shape }
    where
      shape : (mv : Move) → CountsIn q mv → IsLower (numbers_of mv) ((3 + 1) ∷ [])
          → IsLower (numbers_of mv) (3 ∷ []) ⊎ IsPair (λ x y. Reverse q.v x y) 1 (length (route_at q.view.routes q.v)) reverse_from (length (route_at q.view.routes q.v)) mv
      shape (Insert c u p) counts h = absurd counts.near
      shape (Remove u p) counts h = absurd counts.near
      shape (Shift u p n x a) counts h = inl (inl one_three)
      shape (Swap u p x a) counts h = inl (inl two_three)
      shape (Reverse u i j) counts h =
          let can = subst (λ (z : ℕ). is_possible q.setting.customers q.view.routes (Reverse z i j) ≡ true) counts.near.0 counts.possible in
          let f = (is.laws.possible.reverse q.setting.customers q.view.routes q.v i j).0 can in
          let order = f.order in
          let high = f.high in
          inr (record { x = i; y = j; is = rw counts.near.0 refl; are = record { low = f.low; high = reverses_high i j _ order high; from = reverses_from i j order; to = f.high } })
      shape (Cross u k x l) counts h = absurd (none h)
        where
          none : IsLower (numbers_of (Cross u k x l)) (4 ∷ []) → ⊥
          none (inl h) = not_below 4 h
          none (inr (e, h)) = h

  -- the crosses
  pub crosses : IsKind (CountsIn q) 4 q.v (q.w ∷ []) (λ x y. Cross q.v x q.w y) 0 (length (route_at q.view.routes q.v)) cross_from (length (route_at q.view.routes q.w))
  crosses = record { numbers = λ x y. refl; shape = shape }
    where
      shape : (mv : Move) → CountsIn q mv → IsLower (numbers_of mv) ((4 + 1) ∷ [])
          → IsLower (numbers_of mv) (4 ∷ []) ⊎ IsPair (λ x y. Cross q.v x q.w y) 0 (length (route_at q.view.routes q.v)) cross_from (length (route_at q.view.routes q.w)) mv
      shape (Insert c u p) counts h = absurd counts.near
      shape (Remove u p) counts h = absurd counts.near
      shape (Shift u p n x a) counts h = inl (inl one_four)
      shape (Swap u p x a) counts h = inl (inl two_four)
      shape (Reverse u i j) counts h = inl (inl three_four)
      shape (Cross u k x l) counts h =
          let can = subst (λ (z : ℕ). is_possible q.setting.customers q.view.routes (Cross q.v k z l) ≡ true) counts.near.1 (subst (λ (z : ℕ). is_possible q.setting.customers q.view.routes (Cross z k x l) ≡ true) counts.near.0 counts.possible) in
          let f = (is.laws.possible.cross q.setting.customers q.view.routes q.v k q.w l).0 can in
          inr (record {
            x = k;
            y = l;
            is = rw (counts.near.0, counts.near.1) refl;
            are = record { low = none_below k; high = f.kept; from = none_below l; to = f.kept_other };
          })

  -- of two empty tails nothing comes
  pub cross_none : (k l : ℕ) (best : Option (Move × ℕ)) → length (route_at q.view.routes q.v) ≤ k → length (route_at q.view.routes q.w) ≤ l
      → IsBestSoFar q (4 ∷ q.v ∷ k ∷ q.w ∷ l ∷ []) best → IsBestSoFar q (4 ∷ q.v ∷ k ∷ q.w ∷ (l + 1) ∷ []) best
  cross_none k l best hk hl g =
      best_kept (CountsIn q) (new_cost q) (old_cost q) (Cross q.v k q.w l) (4 ∷ q.v ∷ k ∷ q.w ∷ (l + 1) ∷ []) best (λ m c. c.lower)
      (pair_next (CountsIn q) (new_cost q) (old_cost q) 4 q.v (q.w ∷ []) (λ x y. Cross q.v x q.w y) 0 (length (route_at q.view.routes q.v)) cross_from (length (route_at q.view.routes q.w)) crosses k l)
      (λ c. absurd (none ((is.laws.possible.cross q.setting.customers q.view.routes q.v k q.w l).0 c.possible).some)) g
    where
      none : (k < length (route_at q.view.routes q.v)) ⊎ (l < length (route_at q.view.routes q.w)) → ⊥
      none (inl h) = apart _ _ hk h
      none (inr h) = apart _ _ hl h

  -- no reverse counts for two vehicles, and no cross for one
  pub no_reverses : (best : Option (Move × ℕ)) → q.v ≢ q.w → IsBestSoFar q (3 ∷ []) best → IsBestSoFar q (4 ∷ []) best
  no_reverses best o g =
      best_on (CountsIn q) (new_cost q) (old_cost q) (3 ∷ []) (4 ∷ []) best (inl three_four) split g
    where
      split : (m : Move) → CountsIn q m → IsLower (numbers_of m) (4 ∷ []) → IsLower (numbers_of m) (3 ∷ [])
      split (Insert c u p) counts h = absurd counts.near
      split (Remove u p) counts h = absurd counts.near
      split (Shift u p n x a) counts h = inl one_three
      split (Swap u p x a) counts h = inl two_three
      split (Reverse u i j) counts h = absurd (o counts.near.1)
      split (Cross u k x l) counts (inl h) = absurd (not_below 4 h)
      split (Cross u k x l) counts (inr (e, h)) = absurd h

  pub no_crosses : (best : Option (Move × ℕ)) → q.v ≡ q.w → IsBestSoFar q (4 ∷ []) best → IsBestSoFar q (5 ∷ []) best
  no_crosses best same g =
      best_on (CountsIn q) (new_cost q) (old_cost q) (4 ∷ []) (5 ∷ []) best (inl four_five) split g
    where
      split : (m : Move) → CountsIn q m → IsLower (numbers_of m) (5 ∷ []) → IsLower (numbers_of m) (4 ∷ [])
      split (Insert c u p) counts h = absurd counts.near
      split (Remove u p) counts h = absurd counts.near
      split (Shift u p n x a) counts h = inl one_four
      split (Swap u p x a) counts h = inl two_four
      split (Reverse u i j) counts h = inl three_four
      split (Cross u k x l) counts h = absurd (counts.near.2 same)

  -- no move counts before the first kind, and after the last kind nothing is left
  pub none_yet : (mv : Move) → CountsIn q mv → IsLower (numbers_of mv) (1 ∷ []) → ⊥
  none_yet (Insert c u p) counts h = counts.near
  none_yet (Remove u p) counts h = counts.near
  none_yet (Shift u p n x a) counts (inl h) = absurd (not_below 1 h)
  none_yet (Shift u p n x a) counts (inr (e, h)) = h
  none_yet (Swap u p x a) counts h = later 2 1 one_two h
  none_yet (Reverse u i j) counts h = later 3 1 one_three h
  none_yet (Cross u k x l) counts h = later 4 1 one_four h

  all_below : (mv : Move) → CountsIn q mv → IsLower (numbers_of mv) (5 ∷ [])
  all_below (Insert c u p) counts = absurd counts.near
  all_below (Remove u p) counts = absurd counts.near
  all_below (Shift u p n x a) counts = inl one_five
  all_below (Swap u p x a) counts = inl two_five
  all_below (Reverse u i j) counts = inl three_five
  all_below (Cross u k x l) counts = inl four_five

  pub best_of_all : (best : Option (Move × ℕ)) → IsBestSoFar q (5 ∷ []) best
      → MatchOption best (IsIdleOf q) (λ p. IsBestOf q p.0 p.1)
  best_of_all None g = λ mv counts. g mv (counts, all_below mv counts)
  best_of_all (Some (x, gain)) g = record {
    counts = g.counts.0;
    gained = g.gained;
    least = λ other counts. g.least other (counts, all_below other counts);
    first = λ other counts e. g.first other (counts, all_below other counts) e;
  }
