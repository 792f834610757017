use Rattle.std.proofs.Common.{◌≡◌, ℕ, ◌+◌, ◌<◌, ◌⊎◌, arith, refl, inl, inr, List, length, true, not, nat_le, nat_eq, ◌&&◌, if◌then◌else◌}
use Rattle.std.proofs.lemmas.Bool.{and_from, le-leb, lt-ltb, ne_eqb, eq-eqb, cases_eq}
use Rattle.std.proofs.Math.Bool.{and-false}
use Rattle.plan_core.specs.Plan.{route_at}
use Rattle.move_core.specs.declared.moves.Move.TheVariants.{Insert, Remove, Shift, Swap, Reverse, Cross}
use Rattle.move_core.specs.Moves.{is_vehicle, is_place, is_free, is_possible}
use Rattle.move_core.specs.Possible.{IsVehicle, IsPlace, IsFree, CanInsert, CanRemove, CanShift, CanSwap, CanReverse, CanCross}
use Rattle.move_core.specs.Laws.{MovesArePossible}
use Rattle.move_core.proofs.Facts.{can_insert, can_remove, can_shift, can_swap, can_reverse, can_cross}

-- the tests of a move, from what they say
test_of_vehicle : (routes : List (List ℕ)) (v : ℕ) → IsVehicle routes v → is_vehicle routes v ≡ true
test_of_vehicle routes v f = and_from _ _ (le-leb 1 v f.low) (le-leb v (length routes) f.high)

test_of_place : (r : List ℕ) (p : ℕ) → IsPlace r p → is_place r p ≡ true
test_of_place r p f = and_from _ _ (le-leb 1 p f.low) (le-leb p (length r) f.high)

test_of_free : (n : ℕ) (routes : List (List ℕ)) (c : ℕ) → IsFree n routes c → is_free n routes c ≡ true
test_of_free n routes c f = and_from _ _ (le-leb 1 c f.low) (and_from _ _ (le-leb c n f.high) (rw f.free refl))

pub insert_possible : (n : ℕ) (routes : List (List ℕ)) (c v p : ℕ) → CanInsert n routes c v p → is_possible n routes (Insert c v p) ≡ true
insert_possible n routes c v p f =
    and_from _ _ (test_of_vehicle routes v f.vehicle)
    (and_from _ _ (test_of_free n routes c f.customer) (and_from _ _ (le-leb 1 p f.low) (le-leb p (length (route_at routes v) + 1) f.high)))

pub remove_possible : (n : ℕ) (routes : List (List ℕ)) (v p : ℕ) → CanRemove routes v p → is_possible n routes (Remove v p) ≡ true
remove_possible n routes v p f = and_from _ _ (test_of_vehicle routes v f.vehicle) (test_of_place (route_at routes v) p f.place)

pub shift_possible : (n : ℕ) (routes : List (List ℕ)) (v p m to at : ℕ) → CanShift routes v p m to at → is_possible n routes (Shift v p m to at) ≡ true
shift_possible n routes v p m to at f =
    and_from _ _ (test_of_vehicle routes v f.from.vehicle)
    (and_from _ _ (test_of_vehicle routes to f.onto.vehicle)
    (and_from _ _ (le-leb 1 m f.from.some) (and_from _ _ (le-leb 1 p f.from.low)
    (and_from _ _ (le-leb (p + m) (length (route_at routes v) + 1) f.from.high) (and_from _ _ (le-leb 1 at f.onto.low) (there (cases_eq v to)))))))
  where
    there : (v ≡ to) ⊎ (v ≡ to → ⊥)
        → (if nat_eq v to then nat_le (at + m) (length (route_at routes to) + 1) && not (nat_eq at p) else nat_le at (length (route_at routes to) + 1)) ≡ true
    there (inl e) = let i = f.onto.inside e in rw (eq-eqb v to e) (and_from _ _ (le-leb (at + m) (length (route_at routes to) + 1) i.0) (rw (ne_eqb at p i.1) refl))
    there (inr o) = rw (ne_eqb v to o) (le-leb at (length (route_at routes to) + 1) (f.onto.outside o))

pub swap_possible : (n : ℕ) (routes : List (List ℕ)) (v p w q : ℕ) → CanSwap routes v p w q → is_possible n routes (Swap v p w q) ≡ true
swap_possible n routes v p w q f =
    and_from _ _ (test_of_vehicle routes v f.vehicle)
    (and_from _ _ (test_of_vehicle routes w f.other)
    (and_from _ _ (test_of_place (route_at routes v) p f.place) (and_from _ _ (test_of_place (route_at routes w) q f.at) (apart (cases_eq v w)))))
  where
    apart : (v ≡ w) ⊎ (v ≡ w → ⊥) → not (nat_eq v w && nat_eq p q) ≡ true
    apart (inl e) = rw (ne_eqb p q (f.apart e), and-false (nat_eq v w)) refl
    apart (inr o) = rw (ne_eqb v w o) refl

pub reverse_possible : (n : ℕ) (routes : List (List ℕ)) (v i j : ℕ) → CanReverse routes v i j → is_possible n routes (Reverse v i j) ≡ true
reverse_possible n routes v i j f =
    and_from _ _ (test_of_vehicle routes v f.vehicle) (and_from _ _ (le-leb 1 i f.low) (and_from _ _ (lt-ltb i j f.order) (le-leb j (length (route_at routes v)) f.high)))

pub cross_possible : (n : ℕ) (routes : List (List ℕ)) (v k w l : ℕ) → CanCross routes v k w l → is_possible n routes (Cross v k w l) ≡ true
cross_possible n routes v k w l f =
    and_from _ _ (test_of_vehicle routes v f.vehicle)
    (and_from _ _ (test_of_vehicle routes w f.other)
    (and_from _ _ (rw (ne_eqb v w f.apart) refl) (and_from _ _ (le-leb k (length (route_at routes v)) f.kept)
    (and_from _ _ (le-leb l (length (route_at routes w)) f.kept_other) (last f.some)))))
  where
    last : (k < length (route_at routes v)) ⊎ (l < length (route_at routes w)) → not (nat_eq k (length (route_at routes v)) && nat_eq l (length (route_at routes w))) ≡ true
    last (inl h) = rw (ne_eqb k (length (route_at routes v)) (λ e. omega arith)) refl
    last (inr h) = rw (ne_eqb l (length (route_at routes w)) (λ e. omega arith), and-false (nat_eq k (length (route_at routes v)))) refl

pub moves_possible : MovesArePossible
moves_possible = record {
  insert = λ n routes c v p. (can_insert n routes c v p, insert_possible n routes c v p);
  remove = λ n routes v p. (can_remove n routes v p, remove_possible n routes v p);
  shift = λ n routes v p m to at. (can_shift n routes v p m to at, shift_possible n routes v p m to at);
  swap = λ n routes v p w q. (can_swap n routes v p w q, swap_possible n routes v p w q);
  reverse = λ n routes v i j. (can_reverse n routes v i j, reverse_possible n routes v i j);
  cross = λ n routes v k w l. (can_cross n routes v k w l, cross_possible n routes v k w l);
}
