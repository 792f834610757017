use Rattle.std.proofs.Common.{◌≡◌, ◌∙◌, ℕ, zero, suc, ◌+◌, ◌-◌, ◌<◌, ◌≤◌, ◌⊎◌, inl, inr, sym, subst, arith, List, [], ◌∷◌, Option, Some, None}
use Rattle.move_core.specs.declared.moves.Move.{Move}
use Rattle.best_moves.specs.Best.{numbers_of, IsLower}
use Rattle.best_moves.specs.Search.{gain_of, IsBestBelow, IsNext}

-- the order of numbers
pub lower_through : (xs ys zs : List ℕ) → IsLower xs ys → IsLower ys zs → IsLower xs zs
lower_through [] [] zs h k = absurd h
lower_through [] (y ∷ ys) [] h k = absurd k
lower_through [] (y ∷ ys) (z ∷ zs) h k = tt
lower_through (x ∷ xs) [] zs h k = absurd h
lower_through (x ∷ xs) (y ∷ ys) [] h k = absurd k
lower_through (x ∷ xs) (y ∷ ys) (z ∷ zs) h k = both (lower_through xs ys zs) h k
  where
    both : (IsLower xs ys → IsLower ys zs → IsLower xs zs) → (x < y) ⊎ ((x ≡ y) × IsLower xs ys) → (y < z) ⊎ ((y ≡ z) × IsLower ys zs) → (x < z) ⊎ ((x ≡ z) × IsLower xs zs)
    both rest (inl a) (inl b) = inl (omega arith)
    both rest (inl a) (inr (e, t)) = inl (omega arith)
    both rest (inr (e, s)) (inl b) = inl (omega arith)
    both rest (inr (e, s)) (inr (f, t)) = inr (e ∙ f, rest s t)

pub lower_self : (xs : List ℕ) → IsLower xs xs → ⊥
lower_self [] h = h
lower_self (x ∷ xs) (inl h) = absurd (omega arith)
lower_self (x ∷ xs) (inr (e, h)) = lower_self xs h

pub lower_one_way : (xs ys : List ℕ) → IsLower xs ys → IsLower ys xs → ⊥
lower_one_way xs ys h k = lower_self xs (lower_through xs ys xs h k)

-- a further bound with no move with P in between
pub best_on : (P : Move → Type 0) (cost : Move → ℕ) (before : ℕ) (b c : List ℕ) (best : Option (Move × ℕ)) → IsLower b c
    → ((m : Move) → P m → IsLower (numbers_of m) c → IsLower (numbers_of m) b)
    → IsBestBelow P cost before b best → IsBestBelow P cost before c best
best_on P cost before b c None up all g = λ m q. g m (q.0, all m q.0 q.1)
best_on P cost before b c (Some (x, gain)) up all g = record {
  counts = (g.counts.0, lower_through (numbers_of x) b c g.counts.1 up);
  gained = g.gained;
  least = λ other q. g.least other (q.0, all other q.0 q.1);
  first = λ other q e. g.first other (q.0, all other q.0 q.1) e;
}

-- the next move gains no more than the best so far, or has not P
pub best_kept : (P : Move → Type 0) (cost : Move → ℕ) (before : ℕ) (x : Move) (bound : List ℕ) (best : Option (Move × ℕ))
    → ((m : Move) → P m → cost m < before) → IsNext P x bound → (P x → before - cost x ≤ gain_of best)
    → IsBestBelow P cost before (numbers_of x) best → IsBestBelow P cost before bound best
best_kept P cost before x bound None low next worse g = λ m q. split m q.0 (next.all m q.0 q.1)
  where
    split : (m : Move) → P m → IsLower (numbers_of m) (numbers_of x) ⊎ (m ≡ x) → ⊥
    split m p (inl h) = g m (p, h)
    split m p (inr e) =
        let q : P x = subst P e p in
        let l : cost x < before = low x q in
        let n : before - cost x ≤ 0 = worse q in
        absurd (omega arith)
best_kept P cost before x bound (Some (y, gain)) low next worse g = record {
  counts = (g.counts.0, lower_through (numbers_of y) (numbers_of x) bound g.counts.1 next.up);
  gained = g.gained;
  least = λ other q. least other q.0 (next.all other q.0 q.1);
  first = λ other q e. first other q.0 e (next.all other q.0 q.1);
}
  where
    least : (other : Move) → P other → IsLower (numbers_of other) (numbers_of x) ⊎ (other ≡ x) → cost y ≤ cost other
    least other p (inl h) = g.least other (p, h)
    least other p (inr e) =
        let q : P x = subst P e p in
        let l : cost x < before = low x q in
        let n : before - cost x ≤ gain = worse q in
        let s : cost y + gain ≡ before = g.gained in
        let t : cost y ≤ cost x = omega arith in
        subst (λ (z : Move). cost y ≤ cost z) (sym e) t

    first : (other : Move) → P other → cost other ≡ cost y → IsLower (numbers_of other) (numbers_of x) ⊎ (other ≡ x)
        → IsLower (numbers_of other) (numbers_of y) → ⊥
    first other p e (inl h) k = g.first other (p, h) e k
    first other p e (inr s) k =
        lower_one_way (numbers_of y) (numbers_of x) g.counts.1 (subst (λ (z : Move). IsLower (numbers_of z) (numbers_of y)) s k)

-- the next move has P and gains more
pub best_taken : (P : Move → Type 0) (cost : Move → ℕ) (before : ℕ) (x : Move) (gain : ℕ) (bound : List ℕ) (best : Option (Move × ℕ))
    → ((m : Move) → P m → cost m < before) → IsNext P x bound → P x → gain ≡ before - cost x → gain_of best < gain
    → IsBestBelow P cost before (numbers_of x) best → IsBestBelow P cost before bound (Some (x, gain))
best_taken P cost before x gain bound best low next p e more g = record {
  counts = (p, next.up);
  gained = let l : cost x < before = low x p in omega arith;
  least = λ other q. least other q.0 (next.all other q.0 q.1);
  first = λ other q s. first other q.0 s (next.all other q.0 q.1);
}
  where
    above : (best : Option (Move × ℕ)) → gain_of best < gain → IsBestBelow P cost before (numbers_of x) best
        → (other : Move) → P other → IsLower (numbers_of other) (numbers_of x) → cost x < cost other
    above None more g other q h = absurd (g other (q, h))
    above (Some (y, saved)) more g other q h =
        let s : cost y + saved ≡ before = g.gained in
        let t : cost y ≤ cost other = g.least other (q, h) in
        let l : cost x < before = low x p in
        let m : saved < gain = more in
        omega arith

    least : (other : Move) → P other → IsLower (numbers_of other) (numbers_of x) ⊎ (other ≡ x) → cost x ≤ cost other
    least other q (inl h) = let k = above best more g other q h in omega arith
    least other q (inr s) = subst (λ (z : Move). cost x ≤ cost z) (sym s) (omega arith)

    first : (other : Move) → P other → cost other ≡ cost x → IsLower (numbers_of other) (numbers_of x) ⊎ (other ≡ x)
        → IsLower (numbers_of other) (numbers_of x) → ⊥
    first other q s (inl h) k = let u = above best more g other q h in absurd (omega arith)
    first other q s (inr t) k = lower_self (numbers_of x) (subst (λ (z : Move). IsLower (numbers_of z) (numbers_of x)) t k)

-- some moves with numbers one after the other, none of which has P and gains more
pub best_past : (P : Move → Type 0) (cost : Move → ℕ) (before : ℕ) (M : ℕ → Move) (B : ℕ → List ℕ) (best : Option (Move × ℕ))
    → ((m : Move) → P m → cost m < before) → ((k : ℕ) → numbers_of (M k) ≡ B k)
    → (n a : ℕ) → ((k : ℕ) → a ≤ k → IsNext P (M k) (B (k + 1))) → ((k : ℕ) → a ≤ k → k < a + n → P (M k) → before - cost (M k) ≤ gain_of best)
    → IsBestBelow P cost before (B a) best → IsBestBelow P cost before (B (a + n)) best
best_past P cost before M B best low numbers zero a next worse g =
    let e : a ≡ a + 0 = omega arith in
    subst (λ (k : ℕ). IsBestBelow P cost before (B k) best) e g
best_past P cost before M B best low numbers (suc n) a next worse g =
    let e : a + 1 + n ≡ a + suc n = omega arith in
    let here = subst (λ (ns : List ℕ). IsBestBelow P cost before ns best) (sym (numbers a)) g in
    let one = best_kept P cost before (M a) (B (a + 1)) best low (next a (omega arith)) (worse a (omega arith) (omega arith)) here in
    subst (λ (k : ℕ). IsBestBelow P cost before (B k) best) e
    (best_past P cost before M B best low numbers n (a + 1) (λ k h. next k (omega arith)) (λ k h l. worse k (omega arith) (omega arith)) one)

pub best_up_to : (P : Move → Type 0) (cost : Move → ℕ) (before : ℕ) (M : ℕ → Move) (B : ℕ → List ℕ) (best : Option (Move × ℕ))
    → ((m : Move) → P m → cost m < before) → ((k : ℕ) → numbers_of (M k) ≡ B k)
    → (a b : ℕ) → a ≤ b → ((k : ℕ) → a ≤ k → IsNext P (M k) (B (k + 1))) → ((k : ℕ) → a ≤ k → k < b → P (M k) → before - cost (M k) ≤ gain_of best)
    → IsBestBelow P cost before (B a) best → IsBestBelow P cost before (B b) best
best_up_to P cost before M B best low numbers a b order next worse g =
    let e : a + (b - a) ≡ b = omega arith in
    subst (λ (k : ℕ). IsBestBelow P cost before (B k) best) e
    (best_past P cost before M B best low numbers (b - a) a next (λ k h l. worse k h (omega arith)) g)
