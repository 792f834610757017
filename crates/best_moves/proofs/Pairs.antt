use Rattle.std.proofs.Common.{◌≡◌, ℕ, ◌+◌, ◌<◌, ◌≤◌, ◌⊎◌, inl, inr, refl, sym, subst, arith, List, [], ◌∷◌, ◌++◌, Option}
use Rattle.std.proofs.lemmas.Bool.{cases_order}
use Rattle.move_core.specs.declared.moves.Move.{Move}
use Rattle.best_moves.specs.Best.{numbers_of, IsLower}
use Rattle.best_moves.specs.Search.{IsBestBelow, IsNext}
use Rattle.best_moves.proofs.Firsts.{lower_through, best_on}

-- Kinds of moves with two numbers x and y of their own, which a loop over x and one over y go through. Their numbers are the kind's, the
-- vehicle, x, some that are the same for all, and y.

-- the ranges of both numbers; where the second begins may hang on the first
pub record AreWithin (x0 x1 : ℕ) (y0 : ℕ → ℕ) (y1 x y : ℕ) : Type 0 where
  pub low : x0 ≤ x
  pub high : x ≤ x1
  pub from : y0 x ≤ y
  pub to : y ≤ y1

-- the move is that of two numbers
pub record IsPair (M : ℕ → ℕ → Move) (x0 x1 : ℕ) (y0 : ℕ → ℕ) (y1 : ℕ) (mv : Move) : Type 0 where
  pub x : ℕ
  pub y : ℕ
  pub is : mv ≡ M x y
  pub are : AreWithin x0 x1 y0 y1 x y

-- what a kind shows: its moves' numbers, and that a move with P up to it is of an earlier kind or one of its own
pub record IsKind (P : Move → Type 0) (k v : ℕ) (mid : List ℕ) (M : ℕ → ℕ → Move) (x0 x1 : ℕ) (y0 : ℕ → ℕ) (y1 : ℕ) : Type 0 where
  pub numbers : (x y : ℕ) → numbers_of (M x y) ≡ k ∷ v ∷ x ∷ (mid ++ y ∷ [])
  pub shape : (mv : Move) → P mv → IsLower (numbers_of mv) ((k + 1) ∷ []) → IsLower (numbers_of mv) (k ∷ []) ⊎ IsPair M x0 x1 y0 y1 mv

same_head : (x : ℕ) (xs ys : List ℕ) → IsLower (x ∷ xs) (x ∷ ys) → IsLower xs ys
same_head x xs ys (inl h) = absurd (omega arith)
same_head x xs ys (inr (e, h)) = h

-- numbers behind a common front
behind : (mid xs ys : List ℕ) → IsLower xs ys → IsLower (mid ++ xs) (mid ++ ys)
behind [] xs ys h = h
behind (m ∷ ms) xs ys h = inr (refl, behind ms xs ys h)

before : (mid xs ys : List ℕ) → IsLower (mid ++ xs) (mid ++ ys) → IsLower xs ys
before [] xs ys h = h
before (m ∷ ms) xs ys h = before ms xs ys (same_head m (ms ++ xs) (ms ++ ys) h)

-- one last number against another
one_lower : (a b : ℕ) → IsLower (a ∷ []) (b ∷ []) → a < b
one_lower a b (inl h) = h
one_lower a b (inr (e, h)) = absurd h

-- all that the kind's laws share
module _ (P : Move → Type 0) (cost : Move → ℕ) (total k v : ℕ) (mid : List ℕ) (M : ℕ → ℕ → Move) (x0 x1 : ℕ) (y0 : ℕ → ℕ) (y1 : ℕ) (kind : IsKind P k v mid M x0 x1 y0 y1) where
  -- the bound goes on where no move of the kind lies between
  pub pair_on : (b c : List ℕ) (best : Option (Move × ℕ)) → IsLower b c
      → ((x y : ℕ) → AreWithin x0 x1 y0 y1 x y → IsLower (x ∷ (mid ++ y ∷ [])) c → IsLower (x ∷ (mid ++ y ∷ [])) b)
      → IsBestBelow P cost total (k ∷ v ∷ b) best → IsBestBelow P cost total (k ∷ v ∷ c) best
  pair_on b c best up all g =
      best_on P cost total (k ∷ v ∷ b) (k ∷ v ∷ c) best (inr (refl, inr (refl, up)))
      (λ m p h. split m h (kind.shape m p (lower_through (numbers_of m) (k ∷ v ∷ c) ((k + 1) ∷ []) h (inl (omega arith))))) g
    where
      split : (m : Move) → IsLower (numbers_of m) (k ∷ v ∷ c) → IsLower (numbers_of m) (k ∷ []) ⊎ IsPair M x0 x1 y0 y1 m → IsLower (numbers_of m) (k ∷ v ∷ b)
      split m h (inl e) = lower_through (numbers_of m) (k ∷ []) (k ∷ v ∷ b) e (inr (refl, tt))
      split m h (inr i) =
          let e : numbers_of m ≡ k ∷ v ∷ i.x ∷ (mid ++ i.y ∷ []) = subst (λ (n : Move). numbers_of n ≡ k ∷ v ∷ i.x ∷ (mid ++ i.y ∷ [])) (sym i.is) (kind.numbers i.x i.y) in
          let below = subst (λ (ns : List ℕ). IsLower ns (k ∷ v ∷ c)) e h in
          let tail = all i.x i.y i.are (same_head v (i.x ∷ (mid ++ i.y ∷ [])) c (same_head k (v ∷ i.x ∷ (mid ++ i.y ∷ [])) (v ∷ c) below)) in
          subst (λ (ns : List ℕ). IsLower ns (k ∷ v ∷ b)) (sym e) (inr (refl, inr (refl, tail)))

  -- from one second number to the next
  pub pair_next : (x y : ℕ) → IsNext P (M x y) (k ∷ v ∷ x ∷ (mid ++ (y + 1) ∷ []))
  pair_next x y = record {
    up = subst (λ (ns : List ℕ). IsLower ns (k ∷ v ∷ x ∷ (mid ++ (y + 1) ∷ []))) (sym (kind.numbers x y))
        (inr (refl, inr (refl, inr (refl, behind mid (y ∷ []) ((y + 1) ∷ []) (inl (omega arith))))));
    all = λ m p h. split m h (kind.shape m p (lower_through (numbers_of m) (k ∷ v ∷ x ∷ (mid ++ (y + 1) ∷ [])) ((k + 1) ∷ []) h (inl (omega arith))));
  }
    where
      here : (m : Move) (x' y' : ℕ) → m ≡ M x' y' → x' ≡ x → (y' ≡ y) ⊎ ((y' < y) ⊎ (y < y')) → y' < y + 1
          → IsLower (k ∷ v ∷ x' ∷ (mid ++ y' ∷ [])) (k ∷ v ∷ x ∷ (mid ++ y ∷ [])) ⊎ (m ≡ M x y)
      here m x' y' e ex (inl ey) h = inr (subst (λ (n : ℕ). m ≡ M x n) ey (subst (λ (n : ℕ). m ≡ M n y') ex e))
      here m x' y' e ex (inr (inl l)) h = inl (inr (refl, inr (refl, inr (ex, behind mid (y' ∷ []) (y ∷ []) (inl l)))))
      here m x' y' e ex (inr (inr l)) h = absurd (omega arith)

      tail : (m : Move) (x' y' : ℕ) → m ≡ M x' y' → IsLower (x' ∷ (mid ++ y' ∷ [])) (x ∷ (mid ++ (y + 1) ∷ []))
          → IsLower (k ∷ v ∷ x' ∷ (mid ++ y' ∷ [])) (k ∷ v ∷ x ∷ (mid ++ y ∷ [])) ⊎ (m ≡ M x y)
      tail m x' y' e (inl h) = inl (inr (refl, inr (refl, inl h)))
      tail m x' y' e (inr (ex, h)) = here m x' y' e ex (cases_order y' y) (one_lower y' (y + 1) (before mid (y' ∷ []) ((y + 1) ∷ []) h))

      split : (m : Move) → IsLower (numbers_of m) (k ∷ v ∷ x ∷ (mid ++ (y + 1) ∷ [])) → IsLower (numbers_of m) (k ∷ []) ⊎ IsPair M x0 x1 y0 y1 m
          → IsLower (numbers_of m) (numbers_of (M x y)) ⊎ (m ≡ M x y)
      split m h (inl e) = inl (lower_through (numbers_of m) (k ∷ []) (numbers_of (M x y)) e (subst (λ (ns : List ℕ). IsLower (k ∷ []) ns) (sym (kind.numbers x y)) (inr (refl, tt))))
      split m h (inr i) =
          let e : numbers_of m ≡ k ∷ v ∷ i.x ∷ (mid ++ i.y ∷ []) = subst (λ (n : Move). numbers_of n ≡ k ∷ v ∷ i.x ∷ (mid ++ i.y ∷ [])) (sym i.is) (kind.numbers i.x i.y) in
          let below = subst (λ (ns : List ℕ). IsLower ns (k ∷ v ∷ x ∷ (mid ++ (y + 1) ∷ []))) e h in
          let found = tail m i.x i.y i.is (same_head v (i.x ∷ (mid ++ i.y ∷ [])) (x ∷ (mid ++ (y + 1) ∷ [])) (same_head k (v ∷ i.x ∷ (mid ++ i.y ∷ [])) (v ∷ x ∷ (mid ++ (y + 1) ∷ [])) below)) in
          subst (λ (ns : List ℕ). IsLower ns (numbers_of (M x y)) ⊎ (m ≡ M x y)) (sym e)
          (subst (λ (ns : List ℕ). IsLower (k ∷ v ∷ i.x ∷ (mid ++ i.y ∷ [])) ns ⊎ (m ≡ M x y)) (sym (kind.numbers x y)) found)

  -- the first first number, and after the last one
  pub pairs_begin : (best : Option (Move × ℕ)) → IsBestBelow P cost total (k ∷ []) best → IsBestBelow P cost total (k ∷ v ∷ x0 ∷ []) best
  pairs_begin best g =
      best_on P cost total (k ∷ []) (k ∷ v ∷ x0 ∷ []) best (inr (refl, tt))
      (λ m p h. split m h (kind.shape m p (lower_through (numbers_of m) (k ∷ v ∷ x0 ∷ []) ((k + 1) ∷ []) h (inl (omega arith))))) g
    where
      none : (x y : ℕ) → x0 ≤ x → IsLower (x ∷ (mid ++ y ∷ [])) (x0 ∷ []) → ⊥
      none x y low (inl h) = omega arith
      none x y low (inr (e, h)) = nothing (mid ++ y ∷ []) h
        where
          nothing : (xs : List ℕ) → IsLower xs [] → ⊥
          nothing [] h = h
          nothing (x ∷ xs) h = h

      split : (m : Move) → IsLower (numbers_of m) (k ∷ v ∷ x0 ∷ []) → IsLower (numbers_of m) (k ∷ []) ⊎ IsPair M x0 x1 y0 y1 m → IsLower (numbers_of m) (k ∷ [])
      split m h (inl e) = e
      split m h (inr i) =
          let e : numbers_of m ≡ k ∷ v ∷ i.x ∷ (mid ++ i.y ∷ []) = subst (λ (n : Move). numbers_of n ≡ k ∷ v ∷ i.x ∷ (mid ++ i.y ∷ [])) (sym i.is) (kind.numbers i.x i.y) in
          let below = subst (λ (ns : List ℕ). IsLower ns (k ∷ v ∷ x0 ∷ [])) e h in
          absurd (none i.x i.y i.are.low (same_head v (i.x ∷ (mid ++ i.y ∷ [])) (x0 ∷ []) (same_head k (v ∷ i.x ∷ (mid ++ i.y ∷ [])) (v ∷ x0 ∷ []) below)))

  -- first numbers of which no move has P
  pub pairs_skipped : (x z : ℕ) (best : Option (Move × ℕ)) → x ≤ z → ((a b : ℕ) → x ≤ a → a < z → P (M a b) → ⊥)
      → IsBestBelow P cost total (k ∷ v ∷ x ∷ []) best → IsBestBelow P cost total (k ∷ v ∷ z ∷ []) best
  pairs_skipped x z best order none g = from (cases_order x z)
    where
      lower : (a b : ℕ) → P (M a b) → (a ≡ x) ⊎ ((a < x) ⊎ (x < a)) → a < z → IsLower (a ∷ (mid ++ b ∷ [])) (x ∷ [])
      lower a b p (inl e) h = absurd (none a b (omega arith) h p)
      lower a b p (inr (inl l)) h = inl l
      lower a b p (inr (inr l)) h = absurd (none a b (omega arith) h p)

      nothing : (xs : List ℕ) → IsLower xs [] → ⊥
      nothing [] h = h
      nothing (y ∷ ys) h = h

      below : (a b : ℕ) → IsLower (a ∷ (mid ++ b ∷ [])) (z ∷ []) → a < z
      below a b (inl h) = h
      below a b (inr (e, h)) = absurd (nothing (mid ++ b ∷ []) h)

      split : (m : Move) → P m → IsLower (numbers_of m) (k ∷ v ∷ z ∷ []) → IsLower (numbers_of m) (k ∷ []) ⊎ IsPair M x0 x1 y0 y1 m → IsLower (numbers_of m) (k ∷ v ∷ x ∷ [])
      split m p h (inl e) = lower_through (numbers_of m) (k ∷ []) (k ∷ v ∷ x ∷ []) e (inr (refl, tt))
      split m p h (inr i) =
          let e : numbers_of m ≡ k ∷ v ∷ i.x ∷ (mid ++ i.y ∷ []) = subst (λ (n : Move). numbers_of n ≡ k ∷ v ∷ i.x ∷ (mid ++ i.y ∷ [])) (sym i.is) (kind.numbers i.x i.y) in
          let behind = subst (λ (ns : List ℕ). IsLower ns (k ∷ v ∷ z ∷ [])) e h in
          let few = below i.x i.y (same_head v (i.x ∷ (mid ++ i.y ∷ [])) (z ∷ []) (same_head k (v ∷ i.x ∷ (mid ++ i.y ∷ [])) (v ∷ z ∷ []) behind)) in
          let first = lower i.x i.y (subst P i.is p) (cases_order i.x x) few in
          subst (λ (ns : List ℕ). IsLower ns (k ∷ v ∷ x ∷ [])) (sym e) (inr (refl, inr (refl, first)))

      from : (x ≡ z) ⊎ ((x < z) ⊎ (z < x)) → IsBestBelow P cost total (k ∷ v ∷ z ∷ []) best
      from (inl e) = subst (λ (n : ℕ). IsBestBelow P cost total (k ∷ v ∷ n ∷ []) best) e g
      from (inr (inl l)) =
          best_on P cost total (k ∷ v ∷ x ∷ []) (k ∷ v ∷ z ∷ []) best (inr (refl, inr (refl, inl l)))
          (λ m p h. split m p h (kind.shape m p (lower_through (numbers_of m) (k ∷ v ∷ z ∷ []) ((k + 1) ∷ []) h (inl (omega arith))))) g
      from (inr (inr l)) = absurd (omega arith)

  pub pairs_end : (x : ℕ) (best : Option (Move × ℕ)) → x1 < x → IsBestBelow P cost total (k ∷ v ∷ x ∷ []) best → IsBestBelow P cost total ((k + 1) ∷ []) best
  pairs_end x best last g =
      best_on P cost total (k ∷ v ∷ x ∷ []) ((k + 1) ∷ []) best (inl (omega arith)) (λ m p h. split m (kind.shape m p h)) g
    where
      split : (m : Move) → IsLower (numbers_of m) (k ∷ []) ⊎ IsPair M x0 x1 y0 y1 m → IsLower (numbers_of m) (k ∷ v ∷ x ∷ [])
      split m (inl e) = lower_through (numbers_of m) (k ∷ []) (k ∷ v ∷ x ∷ []) e (inr (refl, tt))
      split m (inr i) =
          let e : numbers_of m ≡ k ∷ v ∷ i.x ∷ (mid ++ i.y ∷ []) = subst (λ (n : Move). numbers_of n ≡ k ∷ v ∷ i.x ∷ (mid ++ i.y ∷ [])) (sym i.is) (kind.numbers i.x i.y) in
          let h = i.are.high in
          subst (λ (ns : List ℕ). IsLower ns (k ∷ v ∷ x ∷ [])) (sym e) (inr (refl, inr (refl, inl (omega arith))))

  -- a first number's row begins, and is done
  pub pair_row : (x y : ℕ) (best : Option (Move × ℕ)) → y ≡ y0 x → IsBestBelow P cost total (k ∷ v ∷ x ∷ []) best → IsBestBelow P cost total (k ∷ v ∷ x ∷ (mid ++ y ∷ [])) best
  pair_row x y best start g =
      pair_on (x ∷ []) (x ∷ (mid ++ y ∷ [])) best (inr (refl, some mid)) (λ a b are h. split a b are.from h) g
    where
      some : (ms : List ℕ) → IsLower [] (ms ++ y ∷ [])
      some [] = tt
      some (m ∷ ms) = tt

      split : (a b : ℕ) → y0 a ≤ b → IsLower (a ∷ (mid ++ b ∷ [])) (x ∷ (mid ++ y ∷ [])) → IsLower (a ∷ (mid ++ b ∷ [])) (x ∷ [])
      split a b low (inl h) = inl h
      split a b low (inr (e, h)) =
          let f = one_lower b y (before mid (b ∷ []) (y ∷ []) h) in
          let l : y0 x ≤ b = subst (λ (n : ℕ). y0 n ≤ b) e low in
          absurd (omega arith)

  pub pair_row_done : (x y : ℕ) (best : Option (Move × ℕ)) → y1 < y → IsBestBelow P cost total (k ∷ v ∷ x ∷ (mid ++ y ∷ [])) best → IsBestBelow P cost total (k ∷ v ∷ (x + 1) ∷ []) best
  pair_row_done x y best last g =
      pair_on (x ∷ (mid ++ y ∷ [])) ((x + 1) ∷ []) best (inl (omega arith)) (λ a b are h. split a b are.to h) g
    where
      order : (a b : ℕ) → b ≤ y1 → (a ≡ x) ⊎ ((a < x) ⊎ (x < a)) → a < x + 1 → IsLower (a ∷ (mid ++ b ∷ [])) (x ∷ (mid ++ y ∷ []))
      order a b high (inl e) h = inr (e, behind mid (b ∷ []) (y ∷ []) (inl (omega arith)))
      order a b high (inr (inl l)) h = inl l
      order a b high (inr (inr l)) h = absurd (omega arith)

      split : (a b : ℕ) → b ≤ y1 → IsLower (a ∷ (mid ++ b ∷ [])) ((x + 1) ∷ []) → IsLower (a ∷ (mid ++ b ∷ [])) (x ∷ (mid ++ y ∷ []))
      split a b high (inl h) = order a b high (cases_order a x) h
      split a b high (inr (e, h)) = nothing (mid ++ b ∷ []) h
        where
          nothing : (xs : List ℕ) → IsLower xs [] → IsLower (a ∷ (mid ++ b ∷ [])) (x ∷ (mid ++ y ∷ []))
          nothing [] h = absurd h
          nothing (z ∷ zs) h = absurd h
