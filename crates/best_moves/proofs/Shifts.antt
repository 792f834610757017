use Rattle.std.proofs.Common.{◌≡◌, ◌≢◌, ℕ, ◌+◌, ◌-◌, ◌<◌, ◌≤◌, ◌⊎◌, inl, inr, refl, sym, subst, arith, List, [], ◌∷◌, length, Option, true}
use Rattle.std.proofs.lemmas.Bool.{cases_order, cases_eq}
use Rattle.plan_core.specs.Plan.{route_at}
use Rattle.move_core.specs.declared.moves.Move.{Move}
use Rattle.move_core.specs.declared.moves.Move.TheVariants.{Insert, Remove, Shift, Swap, Reverse, Cross}
use Rattle.move_core.specs.Moves.{is_possible}
use Rattle.best_moves.specs.Best.{numbers_of, IsLower}
use Rattle.best_moves.specs.Search.{gain_of, IsBestSoFar, IsNext}
use Rattle.best_moves.specs.Searched.{Searched, CountsIn, IsSearch, new_cost, old_cost}
use Rattle.best_moves.proofs.KindNumbers.{one_two, one_three, one_four, two_three, two_four, next, not_between, later}
use Rattle.best_moves.proofs.Firsts.{best_kept, best_on, best_up_to}

-- the numbers of a shift from v to w, by the lengths of their routes
pub record AreShift (v w lv lw p n a : ℕ) : Type 0 where
  pub place : 1 ≤ p
  pub some : 1 ≤ n
  pub few : n ≤ 3
  pub fits : p + n ≤ lv + 1
  pub at : 1 ≤ a
  pub inside : v ≡ w → a + n ≤ lw + 1
  pub outside : v ≢ w → a ≤ lw + 1

-- a move of a kind
pub record IsShift (v w lv lw : ℕ) (rest : List ℕ) (mv : Move) : Type 0 where
  pub p : ℕ
  pub n : ℕ
  pub a : ℕ
  pub is : mv ≡ Shift v p n w a
  pub are : AreShift v w lv lw p n a
  pub below : IsLower (p ∷ n ∷ w ∷ a ∷ []) rest

same_head : (x : ℕ) (xs ys : List ℕ) → (x < x) ⊎ ((x ≡ x) × IsLower xs ys) → IsLower xs ys
same_head x xs ys (inl h) = absurd (omega arith)
same_head x xs ys (inr (e, h)) = h

-- the steps between the loops, by the numbers of a shift
to_row : (v lv lw p n w p' n' a' : ℕ) → AreShift v w lv lw p' n' a' → IsLower (p' ∷ n' ∷ w ∷ a' ∷ []) (p ∷ n ∷ w ∷ 1 ∷ []) → IsLower (p' ∷ n' ∷ w ∷ a' ∷ []) (p ∷ n ∷ [])
to_row v lv lw p n w p' n' a' are (inl h) = inl h
to_row v lv lw p n w p' n' a' are (inr (e, inl h)) = inr (e, inl h)
to_row v lv lw p n w p' n' a' are (inr (e, inr (f, inl h))) = absurd (omega arith)
to_row v lv lw p n w p' n' a' are (inr (e, inr (f, inr (g, inl h)))) = let k = are.at in absurd (omega arith)
to_row v lv lw p n w p' n' a' are (inr (e, inr (f, inr (g, inr (i, h))))) = absurd h

row_done : (v lv lw p n w end p' n' a' : ℕ) → (v ≡ w → lw + 1 < end + n) → (v ≢ w → lw + 1 < end) → AreShift v w lv lw p' n' a'
    → IsLower (p' ∷ n' ∷ w ∷ a' ∷ []) (p ∷ (n + 1) ∷ []) → IsLower (p' ∷ n' ∷ w ∷ a' ∷ []) (p ∷ n ∷ w ∷ end ∷ [])
row_done v lv lw p n w end p' n' a' within beyond are (inl h) = inl h
row_done v lv lw p n w end p' n' a' within beyond are (inr (e, inl h)) = split (cases_order n' n)
  where
    below : n' ≡ n → (v ≡ w) ⊎ (v ≡ w → ⊥) → a' < end
    below f (inl same) = let k = are.inside same in let l = within same in omega arith
    below f (inr o) = let k = are.outside o in let l = beyond o in omega arith

    split : (n' ≡ n) ⊎ ((n' < n) ⊎ (n < n')) → IsLower (p' ∷ n' ∷ w ∷ a' ∷ []) (p ∷ n ∷ w ∷ end ∷ [])
    split (inl f) = inr (e, inr (f, inr (refl, inl (below f (cases_eq v w)))))
    split (inr (inl f)) = inr (e, inl f)
    split (inr (inr f)) = absurd (omega arith)
row_done v lv lw p n w end p' n' a' within beyond are (inr (e, inr (f, h))) = absurd h

to_place : (v lv lw p w p' n' a' : ℕ) → AreShift v w lv lw p' n' a' → IsLower (p' ∷ n' ∷ w ∷ a' ∷ []) (p ∷ 1 ∷ []) → IsLower (p' ∷ n' ∷ w ∷ a' ∷ []) (p ∷ [])
to_place v lv lw p w p' n' a' are (inl h) = inl h
to_place v lv lw p w p' n' a' are (inr (e, inl h)) = let k = are.some in absurd (omega arith)
to_place v lv lw p w p' n' a' are (inr (e, inr (f, h))) = absurd h

place_left : (p n w p' n' a' : ℕ) → (p' ≡ p → n' < n) → IsLower (p' ∷ n' ∷ w ∷ a' ∷ []) ((p + 1) ∷ []) → IsLower (p' ∷ n' ∷ w ∷ a' ∷ []) (p ∷ n ∷ [])
place_left p n w p' n' a' few (inl h) = split (cases_order p' p)
  where
    split : (p' ≡ p) ⊎ ((p' < p) ⊎ (p < p')) → IsLower (p' ∷ n' ∷ w ∷ a' ∷ []) (p ∷ n ∷ [])
    split (inl e) = inr (e, inl (few e))
    split (inr (inl f)) = inl f
    split (inr (inr f)) = absurd (omega arith)
place_left p n w p' n' a' few (inr (e, h)) = absurd h

module _ (q : Searched) (is : IsSearch q) where
  -- a move that counts, with numbers below those of some shift
  pub shift_below : (mv : Move) (rest : List ℕ) → CountsIn q mv
      → IsLower (numbers_of mv) (1 ∷ q.v ∷ rest) → IsShift q.v q.w (length (route_at q.view.routes q.v)) (length (route_at q.view.routes q.w)) rest mv
  shift_below (Insert c u p) rest counts h = absurd counts.near
  shift_below (Remove u p) rest counts h = absurd counts.near
  shift_below (Swap u p x a) rest counts h = absurd (later 2 1 one_two h)
  shift_below (Reverse u i j) rest counts h = absurd (later 3 1 one_three h)
  shift_below (Cross u k x l) rest counts h = absurd (later 4 1 one_four h)
  shift_below (Shift u p n x a) rest counts h =
      let eu : u ≡ q.v = counts.near.0 in
      let ex : x ≡ q.w = counts.near.1 in
      let can = subst (λ (z : ℕ). is_possible q.setting.customers q.view.routes (Shift q.v p n z a) ≡ true) ex (subst (λ (z : ℕ). is_possible q.setting.customers q.view.routes (Shift z p n x a) ≡ true) eu counts.possible) in
      let f = (is.laws.possible.shift q.setting.customers q.view.routes q.v p n q.w a).0 can in
      let k = subst (λ (z : ℕ). IsLower (1 ∷ q.v ∷ p ∷ n ∷ z ∷ a ∷ []) (1 ∷ q.v ∷ rest)) ex (subst (λ (z : ℕ). IsLower (1 ∷ z ∷ p ∷ n ∷ x ∷ a ∷ []) (1 ∷ q.v ∷ rest)) eu h) in
      record {
        p = p;
        n = n;
        a = a;
        is = rw (eu, ex) refl;
        are = record { place = f.from.low; some = f.from.some; few = counts.near.2; fits = f.from.high; at = f.onto.low; inside = λ e. (f.onto.inside e).0; outside = f.onto.outside };
        below = same_head q.v (p ∷ n ∷ q.w ∷ a ∷ []) rest (same_head 1 (q.v ∷ p ∷ n ∷ q.w ∷ a ∷ []) (q.v ∷ rest) k);
      }

  back : (p n a : ℕ) (rest : List ℕ) (mv : Move) → mv ≡ Shift q.v p n q.w a → IsLower (p ∷ n ∷ q.w ∷ a ∷ []) rest → IsLower (numbers_of mv) (1 ∷ q.v ∷ rest)
  back p n a rest mv e h = subst (λ (m : Move). IsLower (numbers_of m) (1 ∷ q.v ∷ rest)) (sym e) (inr (refl, inr (refl, h)))

  -- the numbers of a shift that counts
  pub shift_are : (p n a : ℕ) → CountsIn q (Shift q.v p n q.w a) → AreShift q.v q.w (length (route_at q.view.routes q.v)) (length (route_at q.view.routes q.w)) p n a
  shift_are p n a counts =
      let f = (is.laws.possible.shift q.setting.customers q.view.routes q.v p n q.w a).0 counts.possible in
      record { place = f.from.low; some = f.from.some; few = counts.near.2; fits = f.from.high; at = f.onto.low; inside = λ e. (f.onto.inside e).0; outside = f.onto.outside }

  -- the bound goes on where no shift that counts lies between
  pub shift_on : (b c : List ℕ) (best : Option (Move × ℕ)) → IsLower b c
      → ((p n a : ℕ) → CountsIn q (Shift q.v p n q.w a) → IsLower (p ∷ n ∷ q.w ∷ a ∷ []) c → IsLower (p ∷ n ∷ q.w ∷ a ∷ []) b)
      → IsBestSoFar q (1 ∷ q.v ∷ b) best
      → IsBestSoFar q (1 ∷ q.v ∷ c) best
  shift_on b c best up all g =
      best_on (CountsIn q) (new_cost q) (old_cost q) (1 ∷ q.v ∷ b) (1 ∷ q.v ∷ c) best (inr (refl, inr (refl, up)))
      (λ m counts h. let k = shift_below m c counts h in back k.p k.n k.a b m k.is (all k.p k.n k.a (subst (λ (x : Move). CountsIn q x) k.is counts) k.below)) g

  -- from one place in the other route to the next
  pub shift_next : (p n a : ℕ)
      → IsNext (CountsIn q) (Shift q.v p n q.w a) (1 ∷ q.v ∷ p ∷ n ∷ q.w ∷ (a + 1) ∷ [])
  shift_next p n a = record {
    up = inr (refl, inr (refl, inr (refl, inr (refl, inr (refl, inl (next a))))));
    all = λ m counts h.
        let k = shift_below m (p ∷ n ∷ q.w ∷ (a + 1) ∷ []) counts h in
        split m k.p k.n k.a k.is k.below;
  }
    where
      here : (m : Move) (p' n' a' : ℕ) → m ≡ Shift q.v p' n' q.w a' → p' ≡ p → n' ≡ n → (a' ≡ a) ⊎ ((a' < a) ⊎ (a < a')) → a' < a + 1
          → IsLower (numbers_of m) (numbers_of (Shift q.v p n q.w a)) ⊎ (m ≡ Shift q.v p n q.w a)
      here m p' n' a' e ep en (inl ea) h = inr (rw (ep, en, ea) at e)
      here m p' n' a' e ep en (inr (inl k)) h = inl (back p' n' a' (p ∷ n ∷ q.w ∷ a ∷ []) m e (inr (ep, inr (en, inr (refl, inl k)))))
      here m p' n' a' e ep en (inr (inr k)) h = absurd (not_between a a' k h)

      split : (m : Move) (p' n' a' : ℕ) → m ≡ Shift q.v p' n' q.w a' → IsLower (p' ∷ n' ∷ q.w ∷ a' ∷ []) (p ∷ n ∷ q.w ∷ (a + 1) ∷ [])
          → IsLower (numbers_of m) (numbers_of (Shift q.v p n q.w a)) ⊎ (m ≡ Shift q.v p n q.w a)
      split m p' n' a' e (inl h) = inl (back p' n' a' (p ∷ n ∷ q.w ∷ a ∷ []) m e (inl h))
      split m p' n' a' e (inr (ep, inl h)) = inl (back p' n' a' (p ∷ n ∷ q.w ∷ a ∷ []) m e (inr (ep, inl h)))
      split m p' n' a' e (inr (ep, inr (en, inl h))) = absurd (omega arith)
      split m p' n' a' e (inr (ep, inr (en, inr (ew, inl h)))) = here m p' n' a' e ep en (cases_order a' a) h
      split m p' n' a' e (inr (ep, inr (en, inr (ew, inr (ea, h))))) = absurd h

  -- and over some of them, none of which counts and gains more
  pub shifts_past : (p n a b : ℕ) (best : Option (Move × ℕ)) → a ≤ b
      → ((k : ℕ) → a ≤ k → k < b → CountsIn q (Shift q.v p n q.w k) → old_cost q - new_cost q (Shift q.v p n q.w k) ≤ gain_of best)
      → IsBestSoFar q (1 ∷ q.v ∷ p ∷ n ∷ q.w ∷ a ∷ []) best
      → IsBestSoFar q (1 ∷ q.v ∷ p ∷ n ∷ q.w ∷ b ∷ []) best
  shifts_past p n a b best order worse g =
      best_up_to (CountsIn q) (new_cost q) (old_cost q) (λ k. Shift q.v p n q.w k) (λ k. 1 ∷ q.v ∷ p ∷ n ∷ q.w ∷ k ∷ []) best
      (λ m c. c.lower) (λ k. refl) a b order (λ k h. shift_next p n k) worse g

  -- the steps between the loops
  pub shifts_at : (p : ℕ) (best : Option (Move × ℕ)) → IsBestSoFar q (1 ∷ q.v ∷ p ∷ []) best → IsBestSoFar q (1 ∷ q.v ∷ p ∷ 1 ∷ []) best
  shifts_at p best g = shift_on (p ∷ []) (p ∷ 1 ∷ []) best (inr (refl, tt)) (λ p' n a counts. to_place q.v _ _ p q.w p' n a (shift_are p' n a counts)) g

  pub shifts_row : (p n : ℕ) (best : Option (Move × ℕ)) → IsBestSoFar q (1 ∷ q.v ∷ p ∷ n ∷ []) best → IsBestSoFar q (1 ∷ q.v ∷ p ∷ n ∷ q.w ∷ 1 ∷ []) best
  shifts_row p n best g = shift_on (p ∷ n ∷ []) (p ∷ n ∷ q.w ∷ 1 ∷ []) best (inr (refl, inr (refl, tt))) (λ p' n' a counts. to_row q.v _ _ p n q.w p' n' a (shift_are p' n' a counts)) g

  pub shifts_row_done : (p n end : ℕ) (best : Option (Move × ℕ))
      → (q.v ≡ q.w → length (route_at q.view.routes q.w) + 1 < end + n) → (q.v ≢ q.w → length (route_at q.view.routes q.w) + 1 < end)
      → IsBestSoFar q (1 ∷ q.v ∷ p ∷ n ∷ q.w ∷ end ∷ []) best → IsBestSoFar q (1 ∷ q.v ∷ p ∷ (n + 1) ∷ []) best
  shifts_row_done p n end best within beyond g =
      shift_on (p ∷ n ∷ q.w ∷ end ∷ []) (p ∷ (n + 1) ∷ []) best (inr (refl, inl (next n))) (λ p' n' a counts. row_done q.v _ _ p n q.w end p' n' a within beyond (shift_are p' n' a counts)) g

  -- no shift from the place moves so many
  pub shifts_left : (p n : ℕ) (best : Option (Move × ℕ)) → ((k a : ℕ) → CountsIn q (Shift q.v p k q.w a) → k < n)
      → IsBestSoFar q (1 ∷ q.v ∷ p ∷ n ∷ []) best → IsBestSoFar q (1 ∷ q.v ∷ (p + 1) ∷ []) best
  shifts_left p n best few g =
      shift_on (p ∷ n ∷ []) ((p + 1) ∷ []) best (inl (next p))
      (λ p' n' a counts. place_left p n q.w p' n' a (λ e. few n' a (subst (λ (x : ℕ). CountsIn q (Shift q.v x n' q.w a)) e counts))) g

  -- a stretch that is put where it stands moves nobody
  pub shift_still : (p n : ℕ) (best : Option (Move × ℕ)) → q.v ≡ q.w
      → IsBestSoFar q (1 ∷ q.v ∷ p ∷ n ∷ q.w ∷ p ∷ []) best → IsBestSoFar q (1 ∷ q.v ∷ p ∷ n ∷ q.w ∷ (p + 1) ∷ []) best
  shift_still p n best same g =
      best_kept (CountsIn q) (new_cost q) (old_cost q) (Shift q.v p n q.w p) (1 ∷ q.v ∷ p ∷ n ∷ q.w ∷ (p + 1) ∷ []) best (λ m c. c.lower) (shift_next p n p)
      (λ c. absurd (((((is.laws.possible.shift q.setting.customers q.view.routes q.v p n q.w p).0 c.possible).onto.inside same).1) refl)) g

  -- the first shift, and after the last one
  pub shifts_begin : (best : Option (Move × ℕ))
      → IsBestSoFar q (1 ∷ []) best
      → IsBestSoFar q (1 ∷ q.v ∷ 1 ∷ []) best
  shifts_begin best g =
      best_on (CountsIn q) (new_cost q) (old_cost q) (1 ∷ []) (1 ∷ q.v ∷ 1 ∷ []) best (inr (refl, tt))
      (λ m counts h. let k = shift_below m (1 ∷ []) counts h in none m k.p k.n k.a k.are.place k.below) g
    where
      none : (m : Move) (p n a : ℕ) → 1 ≤ p → IsLower (p ∷ n ∷ q.w ∷ a ∷ []) (1 ∷ []) → IsLower (numbers_of m) (1 ∷ [])
      none m p n a low (inl h) = absurd (omega arith)
      none m p n a low (inr (e, h)) = absurd h

  pub shifts_end : (best : Option (Move × ℕ))
      → IsBestSoFar q (1 ∷ q.v ∷ (length (route_at q.view.routes q.v) + 1) ∷ []) best
      → IsBestSoFar q (2 ∷ []) best
  shifts_end best g =
      best_on (CountsIn q) (new_cost q) (old_cost q) (1 ∷ q.v ∷ (length (route_at q.view.routes q.v) + 1) ∷ []) (2 ∷ []) best (inl (omega arith))
      (λ m counts h. split m counts h) g
    where
      split : (m : Move) → CountsIn q m → IsLower (numbers_of m) (2 ∷ []) → IsLower (numbers_of m) (1 ∷ q.v ∷ (length (route_at q.view.routes q.v) + 1) ∷ [])
      split (Insert c u p) counts h = absurd counts.near
      split (Remove u p) counts h = absurd counts.near
      split (Swap u p x a) counts (inl h) = absurd (omega arith)
      split (Swap u p x a) counts (inr (e, h)) = absurd h
      split (Reverse u i j) counts h = absurd (later 3 2 two_three h)
      split (Cross u k x l) counts h = absurd (later 4 2 two_four h)
      split (Shift u p n x a) counts h =
          let eu : u ≡ q.v = counts.near.0 in
          let ex : x ≡ q.w = counts.near.1 in
          let can = subst (λ (z : ℕ). is_possible q.setting.customers q.view.routes (Shift q.v p n z a) ≡ true) ex (subst (λ (z : ℕ). is_possible q.setting.customers q.view.routes (Shift z p n x a) ≡ true) eu counts.possible) in
          let f = (is.laws.possible.shift q.setting.customers q.view.routes q.v p n q.w a).0 can in
          let fit = f.from.high in
          let some = f.from.some in
          inr (refl, inr (eu, inl (omega arith)))
