use Rattle.std.proofs.Common.{◌≡◌, ◌≢◌, ℕ, ◌+◌, ◌<◌, ◌≤◌, ◌⊎◌, arith, inl, inr, List, length, true, false, not, nat_le, nat_lt, nat_eq, ◌&&◌, if◌then◌else◌}
use Rattle.std.proofs.lemmas.Bool.{and_parts, and_cases, ne_eqb, not-true, leb-true, ltb-true, eqb-false, eq-eqb}
use Rattle.plan_core.specs.Plan.{route_at}
use Rattle.move_core.specs.declared.moves.Move.TheVariants.{Insert, Remove, Shift, Swap, Reverse, Cross}
use Rattle.move_core.specs.Moves.{is_vehicle, is_place, is_placed, is_free, is_possible}
use Rattle.move_core.specs.Possible.{IsVehicle, IsPlace, IsFree, CanInsert, CanRemove, CanShift, CanSwap, CanReverse, CanCross}

-- what the tests of a move say

pub vehicle_from_test : (routes : List (List ℕ)) (v : ℕ) → is_vehicle routes v ≡ true → IsVehicle routes v
vehicle_from_test routes v t = let a = and_parts (nat_le 1 v) _ t in record { low = leb-true 1 v a.0; high = leb-true v (length routes) a.1 }

pub place_from_test : (r : List ℕ) (p : ℕ) → is_place r p ≡ true → IsPlace r p
place_from_test r p t = let a = and_parts (nat_le 1 p) _ t in record { low = leb-true 1 p a.0; high = leb-true p (length r) a.1 }

pub free_from_test : (n : ℕ) (routes : List (List ℕ)) (c : ℕ) → is_free n routes c ≡ true → IsFree n routes c
free_from_test n routes c t =
    let a = and_parts (nat_le 1 c) _ t in
    let b = and_parts (nat_le c n) _ a.1 in
    record { low = leb-true 1 c a.0; high = leb-true c n b.0; free = not-true (is_placed routes c) b.1 }

pub can_insert : (n : ℕ) (routes : List (List ℕ)) (c v p : ℕ) → is_possible n routes (Insert c v p) ≡ true → CanInsert n routes c v p
can_insert n routes c v p t =
    let a = and_parts (is_vehicle routes v) _ t in
    let b = and_parts (is_free n routes c) _ a.1 in
    let d = and_parts (nat_le 1 p) _ b.1 in
    record { vehicle = vehicle_from_test routes v a.0; customer = free_from_test n routes c b.0; low = leb-true 1 p d.0; high = leb-true p (length (route_at routes v) + 1) d.1 }

pub can_remove : (n : ℕ) (routes : List (List ℕ)) (v p : ℕ) → is_possible n routes (Remove v p) ≡ true → CanRemove routes v p
can_remove n routes v p t =
    let a = and_parts (is_vehicle routes v) _ t in
    record { vehicle = vehicle_from_test routes v a.0; place = place_from_test (route_at routes v) p a.1 }

put_inside : (v to at p n m : ℕ) → (if nat_eq v to then nat_le (at + n) m && not (nat_eq at p) else nat_le at m) ≡ true
    → v ≡ to → (at + n ≤ m) × (at ≢ p)
put_inside v to at p n m t e =
    let b = rw (eq-eqb v to e) at t in
    let a = and_parts (nat_le (at + n) m) _ b in
    (leb-true (at + n) m a.0, eqb-false at p (not-true (nat_eq at p) a.1))

put_outside : (v to at p n m : ℕ) → (if nat_eq v to then nat_le (at + n) m && not (nat_eq at p) else nat_le at m) ≡ true
    → v ≢ to → at ≤ m
put_outside v to at p n m t o = leb-true at m (rw (ne_eqb v to o) at t)

pub can_shift : (customers : ℕ) (routes : List (List ℕ)) (v p n to at : ℕ) → is_possible customers routes (Shift v p n to at) ≡ true → CanShift routes v p n to at
can_shift customers routes v p n to at t =
    let a = and_parts (is_vehicle routes v) _ t in
    let b = and_parts (is_vehicle routes to) _ a.1 in
    let d = and_parts (nat_le 1 n) _ b.1 in
    let e = and_parts (nat_le 1 p) _ d.1 in
    let f = and_parts (nat_le (p + n) (length (route_at routes v) + 1)) _ e.1 in
    let g = and_parts (nat_le 1 at) _ f.1 in
    record {
      from = record { vehicle = vehicle_from_test routes v a.0; some = leb-true 1 n d.0; low = leb-true 1 p e.0; high = leb-true (p + n) (length (route_at routes v) + 1) f.0 };
      onto = record {
        vehicle = vehicle_from_test routes to b.0;
        low = leb-true 1 at g.0;
        inside = put_inside v to at p n (length (route_at routes to) + 1) g.1;
        outside = put_outside v to at p n (length (route_at routes to) + 1) g.1;
      };
    }

pub can_swap : (customers : ℕ) (routes : List (List ℕ)) (v p w q : ℕ) → is_possible customers routes (Swap v p w q) ≡ true → CanSwap routes v p w q
can_swap customers routes v p w q t =
    let a = and_parts (is_vehicle routes v) _ t in
    let b = and_parts (is_vehicle routes w) _ a.1 in
    let d = and_parts (is_place (route_at routes v) p) _ b.1 in
    let e = and_parts (is_place (route_at routes w) q) _ d.1 in
    record {
      vehicle = vehicle_from_test routes v a.0;
      other = vehicle_from_test routes w b.0;
      place = place_from_test (route_at routes v) p d.0;
      at = place_from_test (route_at routes w) q e.0;
      apart = λ same. eqb-false p q (rw (eq-eqb v w same) at (not-true (nat_eq v w && nat_eq p q) e.1));
    }

pub can_reverse : (customers : ℕ) (routes : List (List ℕ)) (v first last : ℕ) → is_possible customers routes (Reverse v first last) ≡ true → CanReverse routes v first last
can_reverse customers routes v first last t =
    let a = and_parts (is_vehicle routes v) _ t in
    let b = and_parts (nat_le 1 first) _ a.1 in
    let d = and_parts (nat_lt first last) _ b.1 in
    record { vehicle = vehicle_from_test routes v a.0; low = leb-true 1 first b.0; order = ltb-true first last d.0; high = leb-true last (length (route_at routes v)) d.1 }

pub can_cross : (customers : ℕ) (routes : List (List ℕ)) (v keep w keep_other : ℕ) → is_possible customers routes (Cross v keep w keep_other) ≡ true
    → CanCross routes v keep w keep_other
can_cross customers routes v keep w keep_other t =
    let a = and_parts (is_vehicle routes v) _ t in
    let b = and_parts (is_vehicle routes w) _ a.1 in
    let d = and_parts (not (nat_eq v w)) _ b.1 in
    let e = and_parts (nat_le keep (length (route_at routes v))) _ d.1 in
    let f = and_parts (nat_le keep_other (length (route_at routes w))) _ e.1 in
    let k = leb-true keep (length (route_at routes v)) e.0 in
    let l = leb-true keep_other (length (route_at routes w)) f.0 in
    record {
      vehicle = vehicle_from_test routes v a.0;
      other = vehicle_from_test routes w b.0;
      apart = eqb-false v w (not-true (nat_eq v w) d.0);
      kept = k;
      kept_other = l;
      some = short keep (length (route_at routes v)) keep_other (length (route_at routes w)) k l
          (and_cases (nat_eq keep (length (route_at routes v))) (nat_eq keep_other (length (route_at routes w))) (not-true _ f.1));
    }
  where
    short : (i m j k : ℕ) → i ≤ m → j ≤ k → (nat_eq i m ≡ false) ⊎ (nat_eq j k ≡ false) → (i < m) ⊎ (j < k)
    short i m j k h l (inl e) = let o = eqb-false i m e in inl (omega arith)
    short i m j k h l (inr e) = let o = eqb-false j k e in inr (omega arith)
