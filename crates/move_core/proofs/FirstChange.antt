use Rattle.std.proofs.Common.{◌≡◌, ◌≢◌, ℕ, zero, suc, ◌+◌, ◌-◌, ◌<◌, ◌≤◌, ◌↔◌, ◌⊎◌, ◌∙◌, sym, ap, subst, refl, arith, inl, inr, min, List, [], ◌∷◌, ◌++◌, length, take, drop, reverse, slice_get, slice_set, get_or, Some, true, false, ◌==◌, if◌then◌else◌}
use Rattle.std.proofs.lemmas.Bool.{cases_order, cases_lt, eq-eqb, ne_eqb}
use Rattle.std.proofs.lemmas.List.{take-append-le, take-take, length-take-le, get_or-drop, get_or-take, get_or-reverse, length-reverse, take-set-le, get_or-set_same, get_or-set_other, length-set, length-append, length-take, length-drop}
use Rattle.std.proofs.lemmas.Option.{slice_get-get_or, slice_get_past}
use Rattle.plan_core.specs.Plan.{IsPlan, route_at}
use Rattle.plan_core.specs.Front.{IsCommonFront}
use Rattle.move_core.specs.declared.moves.Move.{Move}
use Rattle.move_core.specs.declared.moves.Move.TheVariants.{Insert, Remove, Shift, Swap, Reverse, Cross}
use Rattle.move_core.specs.Moves.{is_possible, changes_by, stretch, without, with_stretch, with_customer, customer_at, crossed}
use Rattle.move_core.specs.Changed.{IsFirstChange, first_change}
use Rattle.move_core.proofs.Facts.{can_insert, can_remove, can_shift, can_swap, can_reverse, can_cross}
use Rattle.move_core.proofs.PlanLaws.{PlanLaws}
use Rattle.move_core.proofs.Placed.{placed_from_stands}
use Rattle.move_core.proofs.Effects.{EachChange, by_vehicles}
use Rattle.move_core.proofs.Tally.{stands_at}

-- what is read in the first part of a joined list, and after it
pub slice_get-take : (xs : List ℕ) (n i : ℕ) → i < n → slice_get (take n xs) i ≡ slice_get xs i
slice_get-take xs zero i h = absurd (omega arith)
slice_get-take [] (suc n) i h = refl
slice_get-take (x ∷ xs) (suc n) zero h = refl
slice_get-take (x ∷ xs) (suc n) (suc i) h = slice_get-take xs n i (omega arith)

pub slice_get-drop : (xs : List ℕ) (n i : ℕ) → slice_get (drop n xs) i ≡ slice_get xs (n + i)
slice_get-drop xs zero i = ap (λ (m : ℕ). slice_get xs m) zero_plus
  where
    zero_plus : i ≡ 0 + i
    zero_plus = omega arith
slice_get-drop [] (suc n) i = refl
slice_get-drop (x ∷ xs) (suc n) i = slice_get-drop xs n i ∙ ap (λ (m : ℕ). slice_get (x ∷ xs) m) shift
  where
    shift : suc (n + i) ≡ suc n + i
    shift = omega arith

pub slice_get-right : (xs ys : List ℕ) (i : ℕ) → slice_get (xs ++ ys) (length xs + i) ≡ slice_get ys i
slice_get-right [] ys i = ap (λ (m : ℕ). slice_get ys m) none
  where
    none : 0 + i ≡ i
    none = omega arith
slice_get-right (x ∷ xs) ys i = ap (λ (m : ℕ). slice_get (x ∷ (xs ++ ys)) m) shift ∙ slice_get-right xs ys i
  where
    shift : suc (length xs) + i ≡ suc (length xs + i)
    shift = omega arith

pub slice_get-left : (xs ys : List ℕ) (i : ℕ) → i < length xs → slice_get (xs ++ ys) i ≡ slice_get xs i
slice_get-left [] ys i h = absurd (omega arith)
slice_get-left (x ∷ xs) ys zero h = refl
slice_get-left (x ∷ xs) ys (suc i) h = slice_get-left xs ys i (omega arith)

-- a route that goes on otherwise from a place on changes first there
pub changed_after : (r b : List ℕ) (p : ℕ) → 1 ≤ p → p ≤ length r + 1 → slice_get b 0 ≢ slice_get r (p - 1) → IsFirstChange r (take (p - 1) r ++ b) p
changed_after r b p low high other =
    let long : length (take (p - 1) r) ≡ p - 1 = length-take-le (p - 1) r (omega arith) in
    let reach : p - 1 ≤ length (take (p - 1) r) = omega arith in
    let at : length (take (p - 1) r) + 0 ≡ p - 1 = omega arith in
    record {
      low = low;
      same = take-append-le (p - 1) (take (p - 1) r) b reach ∙ take-take (p - 1) (p - 1) r (omega arith);
      differs = λ e. other (sym (slice_get-right (take (p - 1) r) b 0) ∙ ap (λ (m : ℕ). slice_get (take (p - 1) r ++ b) m) at ∙ e);
    }

-- a frozen front is kept exactly where it ends before the first change
pub front_kept : (old new : List ℕ) (p f : ℕ) → IsFirstChange old new p → (take f new ≡ take f old) ↔ (f < p)
front_kept old new p f x = (λ e. before e (cases_order f p), λ h. shorter h)
  where
    before : take f new ≡ take f old → (f ≡ p) ⊎ ((f < p) ⊎ (p < f)) → f < p
    before e (inr (inl h)) = h
    before e (inl same) =
        let low : 1 ≤ p = x.low in
        let inside : p - 1 < f = omega arith in
        absurd (x.differs (sym (slice_get-take new f (p - 1) inside) ∙ ap (λ (xs : List ℕ). slice_get xs (p - 1)) e ∙ slice_get-take old f (p - 1) inside))
    before e (inr (inr h)) =
        let low : 1 ≤ p = x.low in
        let inside : p - 1 < f = omega arith in
        absurd (x.differs (sym (slice_get-take new f (p - 1) inside) ∙ ap (λ (xs : List ℕ). slice_get xs (p - 1)) e ∙ slice_get-take old f (p - 1) inside))

    shorter : f < p → take f new ≡ take f old
    shorter h =
        sym (take-take f (p - 1) new (omega arith)) ∙ ap (λ (xs : List ℕ). take f xs) x.same ∙ take-take f (p - 1) old (omega arith)

-- what stays before the first change is the longest common prefix
pub common_before : (old new : List ℕ) (p : ℕ) → IsFirstChange old new p → IsCommonFront old new (p - 1)
common_before old new p x =
    let reach = reached (cases_lt (length old) (p - 1)) in
    record { left = reach.0; right = reach.1; same = sym x.same; greatest = λ k l r e. let h = (front_kept old new p k x).0 (sym e) in omega arith }
  where
    -- neither route ends before the first change
    reached : (length old < p - 1) ⊎ (p - 1 ≤ length old) → (p - 1 ≤ length old) × (p - 1 ≤ length new)
    reached (inl h) =
        let one : length (take (p - 1) new) ≡ min (p - 1) (length new) = length-take (p - 1) new in
        let two : length (take (p - 1) old) ≡ min (p - 1) (length old) = length-take (p - 1) old in
        let same : length (take (p - 1) new) ≡ length (take (p - 1) old) = ap length x.same in
        absurd (x.differs (slice_get_past new (p - 1) (omega arith) ∙ sym (slice_get_past old (p - 1) (omega arith))))
    reached (inr h) =
        let one : length (take (p - 1) new) ≡ min (p - 1) (length new) = length-take (p - 1) new in
        let two : length (take (p - 1) old) ≡ p - 1 = length-take-le (p - 1) old h in
        let same : length (take (p - 1) new) ≡ length (take (p - 1) old) = ap length x.same in
        (h, omega arith)

-- a route that changes is another one
pub changed_differs : (old new : List ℕ) (p : ℕ) → IsFirstChange old new p → new ≢ old
changed_differs old new p x e = x.differs (ap (λ (xs : List ℕ). slice_get xs (p - 1)) e)

-- two places of a plan hold two customers
pub two_places : (n : ℕ) (routes : List (List ℕ)) (k l i j c : ℕ) → IsPlan n routes → slice_get (get_or routes k []) i ≡ Some c
    → slice_get (get_or routes l []) j ≡ Some c → (k ≡ l) × (i ≡ j)
two_places n routes k l i j c plan e f =
    let same = plan.alone c (k + 1) (i + 1) (l + 1) (j + 1) (stands_at routes c k i e) (stands_at routes c l j f) in
    let one : k + 1 ≡ l + 1 = same.0 in
    let two : i + 1 ≡ j + 1 = same.1 in
    (omega arith, omega arith)

-- so what is read at two places differs, if something is read at the first
pub places_differ : (n : ℕ) (routes : List (List ℕ)) (k l i j : ℕ) → IsPlan n routes → i < length (get_or routes k []) → ¬ ((k ≡ l) × (i ≡ j))
    → slice_get (get_or routes k []) i ≢ slice_get (get_or routes l []) j
places_differ n routes k l i j plan h apart e =
    let here : slice_get (get_or routes k []) i ≡ Some (get_or (get_or routes k []) i 0) = slice_get-get_or (get_or routes k []) i 0 h in
    apart (two_places n routes k l i j _ plan here (sym e ∙ here))

-- the same, by how many stay before
changed_from : (r b : List ℕ) (i : ℕ) → i ≤ length r → slice_get b 0 ≢ slice_get r i → IsFirstChange r (take i r ++ b) (i + 1)
changed_from r b i h other =
    let back : i + 1 - 1 ≡ i = omega arith in
    subst (λ (m : ℕ). IsFirstChange r (take m r ++ b) (i + 1)) back
    (changed_after r b (i + 1) (omega arith) (omega arith) (subst (λ (m : ℕ). slice_get b 0 ≢ slice_get r m) (sym back) other))

-- a route with one customer written over changes there
set_changes : (r : List ℕ) (p d : ℕ) → 1 ≤ p → p ≤ length r → Some d ≢ slice_get r (p - 1) → IsFirstChange r (slice_set r (p - 1) d) p
set_changes r p d low high other =
    let long : length (slice_set r (p - 1) d) ≡ length r = length-set r (p - 1) d in
    record {
      low = low;
      same = take-set-le (p - 1) r (p - 1) d (omega arith);
      differs = λ e. other (sym (slice_get-get_or (slice_set r (p - 1) d) (p - 1) 0 (omega arith) ∙ ap (λ (m : ℕ). Some m) (get_or-set_same r (p - 1) d 0 (omega arith))) ∙ e);
    }

-- what a stretch begins with
stretch_head : (r ys : List ℕ) (p m : ℕ) → 1 ≤ p → 1 ≤ m → p ≤ length r → slice_get (stretch r p m ++ ys) 0 ≡ slice_get r (p - 1)
stretch_head r ys p m low some high =
    let gone : length (drop (p - 1) r) ≡ length r - (p - 1) = length-drop (p - 1) r in
    let long : length (take m (drop (p - 1) r)) ≡ min m (length (drop (p - 1) r)) = length-take m (drop (p - 1) r) in
    let none : p - 1 + 0 ≡ p - 1 = omega arith in
    slice_get-left (stretch r p m) ys 0 (omega arith) ∙ slice_get-take (drop (p - 1) r) m 0 (omega arith)
    ∙ slice_get-drop r (p - 1) 0 ∙ ap (λ (i : ℕ). slice_get r i) none

-- what comes after a stretch is not what it begins with
after_stretch : (n : ℕ) (routes : List (List ℕ)) (v p m : ℕ) → IsPlan n routes → 1 ≤ p → 1 ≤ m → p ≤ length (route_at routes v)
    → slice_get (drop (p - 1 + m) (route_at routes v)) 0 ≢ slice_get (route_at routes v) (p - 1)
after_stretch n routes v p m plan low some high e =
    places_differ n routes (v - 1) (v - 1) (p - 1) (p - 1 + m + 0) plan (omega arith) (λ (one, two). omega arith)
    (sym (sym (slice_get-drop (route_at routes v) (p - 1 + m) 0) ∙ e))

-- a stretch is taken out
taken_changes : (n : ℕ) (routes : List (List ℕ)) (v p m : ℕ) → IsPlan n routes → 1 ≤ p → 1 ≤ m → p ≤ length (route_at routes v)
    → IsFirstChange (route_at routes v) (without (route_at routes v) p m) p
taken_changes n routes v p m plan low some high =
    changed_after (route_at routes v) (drop (p - 1 + m) (route_at routes v)) p low (omega arith) (after_stretch n routes v p m plan low some high)

-- and put in on another vehicle
put_changes : (n : ℕ) (routes : List (List ℕ)) (v p m w at : ℕ) → IsPlan n routes → 1 ≤ v → 1 ≤ w → v ≢ w → 1 ≤ p → 1 ≤ m → p ≤ length (route_at routes v)
    → 1 ≤ at → at ≤ length (route_at routes w) + 1
    → IsFirstChange (route_at routes w) (with_stretch (route_at routes w) at (stretch (route_at routes v) p m)) at
put_changes n routes v p m w at plan one here o low some high at_low at_high =
    changed_after (route_at routes w) (stretch (route_at routes v) p m ++ drop (at - 1) (route_at routes w)) at at_low at_high
    (λ e. places_differ n routes (v - 1) (w - 1) (p - 1) (at - 1) plan (omega arith) (λ (x, y). o (omega arith))
    (sym (stretch_head (route_at routes v) (drop (at - 1) (route_at routes w)) p m low some high) ∙ e))

-- or on the same vehicle, before it
back_changes : (n : ℕ) (routes : List (List ℕ)) (v p m at : ℕ) → IsPlan n routes → 1 ≤ p → 1 ≤ m → p ≤ length (route_at routes v) → 1 ≤ at → at < p
    → IsFirstChange (route_at routes v) (with_stretch (without (route_at routes v) p m) at (stretch (route_at routes v) p m)) at
back_changes n routes v p m at plan low some high at_low before =
    let r = route_at routes v in
    let q = without r p m in
    let long : length (take (p - 1) r) ≡ p - 1 = length-take-le (p - 1) r (omega arith) in
    let front : take (at - 1) q ≡ take (at - 1) r =
    take-append-le (at - 1) (take (p - 1) r) (drop (p - 1 + m) r) (omega arith) ∙ take-take (at - 1) (p - 1) r (omega arith) in
    subst (λ (xs : List ℕ). IsFirstChange r (xs ++ (stretch r p m ++ drop (at - 1) q)) at) (sym front)
    (changed_after r (stretch r p m ++ drop (at - 1) q) at at_low (omega arith)
    (λ e. places_differ n routes (v - 1) (v - 1) (p - 1) (at - 1) plan (omega arith) (λ (x, y). omega arith)
    (sym (stretch_head r (drop (at - 1) q) p m low some high) ∙ e)))

-- or after it
forth_changes : (n : ℕ) (routes : List (List ℕ)) (v p m at : ℕ) → IsPlan n routes → 1 ≤ p → 1 ≤ m → p + m ≤ length (route_at routes v) + 1 → p < at
    → at + m ≤ length (route_at routes v) + 1
    → IsFirstChange (route_at routes v) (with_stretch (without (route_at routes v) p m) at (stretch (route_at routes v) p m)) p
forth_changes n routes v p m at plan low some high after room =
    let r = route_at routes v in
    let q = without r p m in
    let s = stretch r p m in
    let front : length (take (p - 1) r) ≡ p - 1 = length-take-le (p - 1) r (omega arith) in
    let rest : length (drop (p - 1 + m) r) ≡ length r - (p - 1 + m) = length-drop (p - 1 + m) r in
    let whole : length q ≡ length (take (p - 1) r) + length (drop (p - 1 + m) r) = length-append (take (p - 1) r) (drop (p - 1 + m) r) in
    let long : length (take (at - 1) q) ≡ at - 1 = length-take-le (at - 1) q (omega arith) in
    let here : length (take (p - 1) r) + 0 ≡ p - 1 = omega arith in
    let read : slice_get (with_stretch q at s) (p - 1) ≡ slice_get (drop (p - 1 + m) r) 0 =
    slice_get-left (take (at - 1) q) (s ++ drop (at - 1) q) (p - 1) (omega arith)
    ∙ slice_get-take q (at - 1) (p - 1) (omega arith)
    ∙ ap (λ (i : ℕ). slice_get q i) (sym here)
    ∙ slice_get-right (take (p - 1) r) (drop (p - 1 + m) r) 0 in
    record {
      low = low;
      same = take-append-le (p - 1) (take (at - 1) q) (s ++ drop (at - 1) q) (omega arith) ∙ take-take (p - 1) (at - 1) q (omega arith)
          ∙ take-append-le (p - 1) (take (p - 1) r) (drop (p - 1 + m) r) (omega arith) ∙ take-take (p - 1) (p - 1) r (omega arith);
      differs = λ e. after_stretch n routes v p m plan low some (omega arith) (sym read ∙ e);
    }

-- two customers of one route change places
swapped_changes : (n : ℕ) (routes : List (List ℕ)) (v p q : ℕ) → IsPlan n routes → 1 ≤ p → 1 ≤ q → p < q → q ≤ length (route_at routes v) → (d e : ℕ)
    → slice_get (route_at routes v) (q - 1) ≡ Some d → IsFirstChange (route_at routes v) (slice_set (slice_set (route_at routes v) (p - 1) d) (q - 1) e) p
swapped_changes n routes v p q plan low here order high d e found =
    let r = route_at routes v in
    let one : length (slice_set r (p - 1) d) ≡ length r = length-set r (p - 1) d in
    let two : length (slice_set (slice_set r (p - 1) d) (q - 1) e) ≡ length (slice_set r (p - 1) d) = length-set (slice_set r (p - 1) d) (q - 1) e in
    let away : p - 1 ≢ q - 1 = λ same. omega arith in
    let read : slice_get (slice_set (slice_set r (p - 1) d) (q - 1) e) (p - 1) ≡ Some d =
    slice_get-get_or (slice_set (slice_set r (p - 1) d) (q - 1) e) (p - 1) 0 (omega arith)
    ∙ ap (λ (m : ℕ). Some m) (get_or-set_other (slice_set r (p - 1) d) (q - 1) (p - 1) e 0 away ∙ get_or-set_same r (p - 1) d 0 (omega arith)) in
    record {
      low = low;
      same = take-set-le (p - 1) (slice_set r (p - 1) d) (q - 1) e (omega arith) ∙ take-set-le (p - 1) r (p - 1) d (omega arith);
      differs = λ same. places_differ n routes (v - 1) (v - 1) (p - 1) (q - 1) plan (omega arith) (λ (x, y). omega arith) (sym same ∙ read ∙ sym found);
    }

turned_changes : (n : ℕ) (routes : List (List ℕ)) (v p q : ℕ) → IsPlan n routes → 1 ≤ p → 1 ≤ q → q < p → p ≤ length (route_at routes v) → (d e : ℕ)
    → slice_get (route_at routes v) (p - 1) ≡ Some e → IsFirstChange (route_at routes v) (slice_set (slice_set (route_at routes v) (p - 1) d) (q - 1) e) q
turned_changes n routes v p q plan low here order high d e found =
    let r = route_at routes v in
    let one : length (slice_set r (p - 1) d) ≡ length r = length-set r (p - 1) d in
    let two : length (slice_set (slice_set r (p - 1) d) (q - 1) e) ≡ length (slice_set r (p - 1) d) = length-set (slice_set r (p - 1) d) (q - 1) e in
    let read : slice_get (slice_set (slice_set r (p - 1) d) (q - 1) e) (q - 1) ≡ Some e =
    slice_get-get_or (slice_set (slice_set r (p - 1) d) (q - 1) e) (q - 1) 0 (omega arith)
    ∙ ap (λ (m : ℕ). Some m) (get_or-set_same (slice_set r (p - 1) d) (q - 1) e 0 (omega arith)) in
    record {
      low = here;
      same = take-set-le (q - 1) (slice_set r (p - 1) d) (q - 1) e (omega arith) ∙ take-set-le (q - 1) r (p - 1) d (omega arith);
      differs = λ same. places_differ n routes (v - 1) (v - 1) (q - 1) (p - 1) plan (omega arith) (λ (x, y). omega arith) (sym same ∙ read ∙ sym found);
    }

-- a reversed stretch begins with its last customer
turned_head : (r ys : List ℕ) (i j : ℕ) → 1 ≤ i → i < j → j ≤ length r → slice_get (reverse (stretch r i (j - i + 1)) ++ ys) 0 ≡ slice_get r (j - 1)
turned_head r ys i j low order high =
    let m = j - i + 1 in
    let s = stretch r i m in
    let gone : length (drop (i - 1) r) ≡ length r - (i - 1) = length-drop (i - 1) r in
    let long : length s ≡ m = length-take-le m (drop (i - 1) r) (omega arith) in
    let turned : length (reverse s) ≡ length s = length-reverse s in
    let last : length s - 1 - 0 ≡ j - i = omega arith in
    let there : i - 1 + (j - i) ≡ j - 1 = omega arith in
    slice_get-left (reverse s) ys 0 (omega arith) ∙ slice_get-get_or (reverse s) 0 0 (omega arith)
    ∙ ap (λ (x : ℕ). Some x)
    (get_or-reverse s 0 0 (omega arith) ∙ ap (λ (k : ℕ). get_or s k 0) last ∙ get_or-take m (drop (i - 1) r) (j - i) 0 (omega arith)
    ∙ get_or-drop (i - 1) r (j - i) 0 ∙ ap (λ (k : ℕ). get_or r k 0) there)
    ∙ sym (slice_get-get_or r (j - 1) 0 (omega arith))

-- tails that change sides differ
tails_differ : (n : ℕ) (routes : List (List ℕ)) (v w k l : ℕ) → IsPlan n routes → 1 ≤ v → 1 ≤ w → v ≢ w
    → (k < length (route_at routes v)) ⊎ (l < length (route_at routes w)) → slice_get (drop l (route_at routes w)) 0 ≢ slice_get (route_at routes v) k
tails_differ n routes v w k l plan one here o (inl h) e =
    let none : l + 0 ≡ l = omega arith in
    places_differ n routes (v - 1) (w - 1) k l plan h (λ (x, y). o (omega arith))
    (sym e ∙ slice_get-drop (route_at routes w) l 0 ∙ ap (λ (m : ℕ). slice_get (route_at routes w) m) none)
tails_differ n routes v w k l plan one here o (inr h) e =
    let none : l + 0 ≡ l = omega arith in
    places_differ n routes (w - 1) (v - 1) l k plan h (λ (x, y). o (omega arith))
    (sym (slice_get-drop (route_at routes w) l 0 ∙ ap (λ (m : ℕ). slice_get (route_at routes w) m) none) ∙ e)

-- the places of a Shift, a Swap or a Cross, by vehicle
same_place : (v w a b d : ℕ) → v ≡ w → (if v == w then a else (if v == v then b else d)) ≡ a
same_place v w a b d e = rw (eq-eqb v w e) refl

first_place : (v w a b d : ℕ) → v ≢ w → (if v == w then a else (if v == v then b else d)) ≡ b
first_place v w a b d o = rw (ne_eqb v w o, eq-eqb v v refl) refl

second_place : (v w a b d : ℕ) → v ≢ w → (if v == w then a else (if w == v then b else d)) ≡ d
second_place v w a b d o = rw (ne_eqb v w o, ne_eqb w v (λ e. o (sym e))) refl

own_place : (v b d : ℕ) → (if v == v then b else d) ≡ b
own_place v b d = rw (eq-eqb v v refl) refl

other_place : (v w b d : ℕ) → v ≢ w → (if w == v then b else d) ≡ d
other_place v w b d o = rw (ne_eqb w v (λ e. o (sym e))) refl

shifted_within : (n : ℕ) (routes : List (List ℕ)) (v p m at : ℕ) → IsPlan n routes → 1 ≤ p → 1 ≤ m → p + m ≤ length (route_at routes v) + 1 → 1 ≤ at
    → at + m ≤ length (route_at routes v) + 1 → at ≢ p → (p ≡ at) ⊎ ((p < at) ⊎ (at < p))
    → IsFirstChange (route_at routes v) (with_stretch (without (route_at routes v) p m) at (stretch (route_at routes v) p m)) (min p at)
shifted_within n routes v p m at plan low some high at_low room other (inl e) = absurd (other (sym e))
shifted_within n routes v p m at plan low some high at_low room other (inr (inl h)) =
    let least : min p at ≡ p = omega arith in
    subst (λ (k : ℕ). IsFirstChange (route_at routes v) (with_stretch (without (route_at routes v) p m) at (stretch (route_at routes v) p m)) k) (sym least)
    (forth_changes n routes v p m at plan low some high h room)
shifted_within n routes v p m at plan low some high at_low room other (inr (inr h)) =
    let least : min p at ≡ at = omega arith in
    subst (λ (k : ℕ). IsFirstChange (route_at routes v) (with_stretch (without (route_at routes v) p m) at (stretch (route_at routes v) p m)) k) (sym least)
    (back_changes n routes v p m at plan low some (omega arith) at_low h)

swapped_within : (n : ℕ) (routes : List (List ℕ)) (v p q : ℕ) → IsPlan n routes → 1 ≤ p → p ≤ length (route_at routes v) → 1 ≤ q → q ≤ length (route_at routes v) → p ≢ q
    → (p ≡ q) ⊎ ((p < q) ⊎ (q < p))
    → IsFirstChange (route_at routes v) (slice_set (slice_set (route_at routes v) (p - 1) (customer_at (route_at routes v) q)) (q - 1) (customer_at (route_at routes v) p)) (min p q)
swapped_within n routes v p q plan low high here top other (inl e) = absurd (other e)
swapped_within n routes v p q plan low high here top other (inr (inl h)) =
    let r = route_at routes v in
    let least : min p q ≡ p = omega arith in
    subst (λ (k : ℕ). IsFirstChange r (slice_set (slice_set r (p - 1) (customer_at r q)) (q - 1) (customer_at r p)) k) (sym least)
    (swapped_changes n routes v p q plan low here h top (customer_at r q) (customer_at r p) (slice_get-get_or r (q - 1) 0 (omega arith)))
swapped_within n routes v p q plan low high here top other (inr (inr h)) =
    let r = route_at routes v in
    let least : min p q ≡ q = omega arith in
    subst (λ (k : ℕ). IsFirstChange r (slice_set (slice_set r (p - 1) (customer_at r q)) (q - 1) (customer_at r p)) k) (sym least)
    (turned_changes n routes v p q plan low here h high (customer_at r q) (customer_at r p) (slice_get-get_or r (p - 1) 0 (omega arith)))

-- each new route changes first at that place
abbrev pub ChangesAt : List (List ℕ) → Move → ℕ → List ℕ → Type 0
ChangesAt routes mv v r = IsFirstChange (route_at routes v) r (first_change mv v)

pub each_changed : PlanLaws → (n : ℕ) (routes : List (List ℕ)) (mv : Move) → IsPlan n routes → is_possible n routes mv ≡ true → EachChange (ChangesAt routes mv) (changes_by routes mv)
each_changed law n routes (Insert c v p) plan t =
    let f = can_insert n routes c v p t in (
      changed_after (route_at routes v) (c ∷ drop (p - 1) (route_at routes v)) p f.low f.high
          (λ e.
          let yes = placed_from_stands law routes c (v - 1 + 1) (p - 1 + 1) (stands_at routes c (v - 1) (p - 1) (sym e)) in
          let both : true ≡ false = sym yes ∙ f.customer.free in
          cc),
      tt,
    )
each_changed law n routes (Remove v p) plan t =
    let f = can_remove n routes v p t in (taken_changes n routes v p 1 plan f.place.low (omega arith) f.place.high, tt)
each_changed law n routes (Shift v p m to at) plan t =
    let f = can_shift n routes v p m to at t in
    let r = route_at routes v in
    let some : 1 ≤ m = f.from.some in
    let low : 1 ≤ p = f.from.low in
    let high : p + m ≤ length r + 1 = f.from.high in
    by_vehicles (EachChange (ChangesAt routes (Shift v p m to at))) v to _ _
    (λ e.
    let inside = f.onto.inside e in
    let room : at + m ≤ length r + 1 = subst (λ (u : ℕ). at + m ≤ length (route_at routes u) + 1) (sym e) inside.0 in (
      subst (λ (k : ℕ). IsFirstChange r (with_stretch (without r p m) at (stretch r p m)) k) (sym (same_place v to (min p at) p at e))
          (shifted_within n routes v p m at plan low some high f.onto.low room inside.1 (cases_order p at)),
      tt,
    ))
    (λ o. (
      subst (λ (k : ℕ). IsFirstChange r (without r p m) k) (sym (first_place v to (min p at) p at o)) (taken_changes n routes v p m plan low some (omega arith)),
      (
        subst (λ (k : ℕ). IsFirstChange (route_at routes to) (with_stretch (route_at routes to) at (stretch r p m)) k) (sym (second_place v to (min p at) p at o))
            (put_changes n routes v p m to at plan f.from.vehicle.low f.onto.vehicle.low o low some (omega arith) f.onto.low (f.onto.outside o)),
        tt,
      ),
    ))
each_changed law n routes (Swap v p w q) plan t =
    let f = can_swap n routes v p w q t in
    let r = route_at routes v in
    let s = route_at routes w in
    let low : 1 ≤ p = f.place.low in
    let high : p ≤ length r = f.place.high in
    let here : 1 ≤ q = f.at.low in
    let top : q ≤ length s = f.at.high in
    let one : 1 ≤ v = f.vehicle.low in
    let two : 1 ≤ w = f.other.low in
    by_vehicles (EachChange (ChangesAt routes (Swap v p w q))) v w _ _
    (λ e.
    let there : q ≤ length r = subst (λ (u : ℕ). q ≤ length (route_at routes u)) (sym e) top in (
      subst (λ (k : ℕ). IsFirstChange r (with_customer (with_customer r p (customer_at r q)) q (customer_at r p)) k) (sym (same_place v w (min p q) p q e))
          (swapped_within n routes v p q plan low high here there (f.apart e) (cases_order p q)),
      tt,
    ))
    (λ o.
    let mine : slice_get r (p - 1) ≡ Some (customer_at r p) = slice_get-get_or r (p - 1) 0 (omega arith) in
    let yours : slice_get s (q - 1) ≡ Some (customer_at s q) = slice_get-get_or s (q - 1) 0 (omega arith) in
    let apart = places_differ n routes (v - 1) (w - 1) (p - 1) (q - 1) plan (omega arith) (λ (x, y). o (omega arith)) in (
      subst (λ (k : ℕ). IsFirstChange r (with_customer r p (customer_at s q)) k) (sym (first_place v w (min p q) p q o))
          (set_changes r p (customer_at s q) low high (λ e. apart (sym e ∙ sym yours))),
      (
        subst (λ (k : ℕ). IsFirstChange s (with_customer s q (customer_at r p)) k) (sym (second_place v w (min p q) p q o))
            (set_changes s q (customer_at r p) here top (λ e. apart (mine ∙ e))),
        tt,
      ),
    ))
each_changed law n routes (Reverse v i j) plan t =
    let f = can_reverse n routes v i j t in
    let r = route_at routes v in
    let low : 1 ≤ i = f.low in
    let order : i < j = f.order in
    let high : j ≤ length r = f.high in (
      changed_after r (reverse (stretch r i (j - i + 1)) ++ drop j r) i low (omega arith)
          (λ e. places_differ n routes (v - 1) (v - 1) (i - 1) (j - 1) plan (omega arith) (λ (x, y). omega arith)
          (sym e ∙ turned_head r (drop j r) i j low order high)),
      tt,
    )
each_changed law n routes (Cross v k w l) plan t =
    let f = can_cross n routes v k w l t in
    let r = route_at routes v in
    let s = route_at routes w in (
      subst (λ (m : ℕ). IsFirstChange r (crossed r k s l) m) (sym (own_place v (k + 1) (l + 1)))
          (changed_from r (drop l s) k f.kept (tails_differ n routes v w k l plan f.vehicle.low f.other.low f.apart f.some)),
      (
        subst (λ (m : ℕ). IsFirstChange s (crossed s l r k) m) (sym (other_place v w (k + 1) (l + 1) f.apart))
            (changed_from s (drop k r) l f.kept_other
            (tails_differ n routes w v l k plan f.other.low f.vehicle.low (λ e. f.apart (sym e)) (turn f.some))),
        tt,
      ),
    )
  where
    turn : {A B : Type 0} → A ⊎ B → B ⊎ A
    turn (inl a) = inr a
    turn (inr b) = inl b
