use Rattle.std.proofs.Common.{◌≡◌, ◌≢◌, ℕ, ◌+◌, ◌-◌, ◌<◌, ◌≤◌, ◌∙◌, sym, ap, subst, refl, arith, List, [], ◌∷◌, ◌++◌, length, take, drop, reverse, slice_set, get_or, Some, true, Contains}
use Rattle.std.proofs.lemmas.List.{get_or-set_other, length-set}
use Rattle.std.proofs.lemmas.List.Sums.{sum_by-set}
use Rattle.std.proofs.lemmas.Option.{slice_get-get_or, slice_get_within, get_or_from_slice_get}
use Rattle.plan_core.specs.Plan.{Changes, route_at}
use Rattle.move_core.specs.declared.moves.Move.{Move}
use Rattle.move_core.specs.declared.moves.Move.TheVariants.{Insert, Remove, Shift, Swap, Reverse, Cross}
use Rattle.move_core.specs.Moves.{is_possible, changes_by, effect, stretch, without, with_stretch, with_customer, customer_at, reversed_within}
use Rattle.move_core.specs.Rearranged.{count, AreRearranged, IsRearranging}
use Rattle.move_core.proofs.Facts.{can_swap, can_reverse}
use Rattle.move_core.proofs.Effects.{by_vehicles, possible_from_effect}
use Rattle.move_core.proofs.Tally.{once, count_at, place_of_count, count-more, count-parts, count-reverse}

-- the customers that are taken out and those that are left are all customers
pub count-without : (c : ℕ) (r : List ℕ) (p m : ℕ) → count c (without r p m) + count c (stretch r p m) ≡ count c r
count-without c r p m = let all = count-parts c r [] (p - 1) m in omega (arith, none)
  where
    none : count c [] ≡ 0
    none = refl

-- a stretch that moves, two customers that change places, a stretch that is reversed
pub shift_count : (c : ℕ) (r : List ℕ) (p m at : ℕ) → count c (with_stretch (without r p m) at (stretch r p m)) ≡ count c r
shift_count c r p m at = let less = count-without c r p m in let more = count-more c (without r p m) (stretch r p m) (at - 1) in omega arith

pub swap_count : (c : ℕ) (r : List ℕ) (p q : ℕ) → 1 ≤ p → p ≤ length r → 1 ≤ q → q ≤ length r → p ≢ q
    → count c (with_customer (with_customer r p (customer_at r q)) q (customer_at r p)) ≡ count c r
swap_count c r p q low high here top other =
    let away : q - 1 ≢ p - 1 = λ same. other (omega arith) in
    let one = sum_by-set (once c) r (p - 1) (customer_at r q) 0 (omega arith) in
    let long : length (slice_set r (p - 1) (customer_at r q)) ≡ length r = length-set r (p - 1) (customer_at r q) in
    let two = sum_by-set (once c) (slice_set r (p - 1) (customer_at r q)) (q - 1) (customer_at r p) 0 (omega arith) in
    let still : once c (get_or (slice_set r (p - 1) (customer_at r q)) (q - 1) 0) ≡ once c (get_or r (q - 1) 0) =
    ap (λ (d : ℕ). once c d) (get_or-set_other r (p - 1) (q - 1) (customer_at r q) 0 away) in
    omega arith

pub reverse_count : (c : ℕ) (r : List ℕ) (i j : ℕ) → 1 ≤ i → i < j → count c (reversed_within r i j) ≡ count c r
reverse_count c r i j low order =
    let end : i - 1 + (j - i + 1) ≡ j = omega arith in
    let all : count c (take (i - 1) r ++ (reverse (stretch r i (j - i + 1)) ++ drop j r)) + count c (stretch r i (j - i + 1)) ≡ count c r + count c (reverse (stretch r i (j - i + 1))) =
    subst (λ (m : ℕ). count c (take (i - 1) r ++ (reverse (stretch r i (j - i + 1)) ++ drop m r)) + count c (stretch r i (j - i + 1)) ≡ count c r + count c (reverse (stretch r i (j - i + 1)))) end
    (count-parts c r (reverse (stretch r i (j - i + 1))) (i - 1) (j - i + 1)) in
    let turned = count-reverse c (stretch r i (j - i + 1)) in
    omega arith

-- a customer that is on a route as often as on another is on it where it is on the other
held_again : (c : ℕ) (xs ys : List ℕ) → count c ys ≡ count c xs → Contains xs c → Contains ys c
held_again c xs ys e (k, h, same) =
    let one = count_at c xs k (slice_get-get_or xs k c h ∙ ap (λ (n : ℕ). Some n) same) in
    let at = place_of_count c ys (omega arith) in
    (at.0, slice_get_within ys at.0 c at.1, get_or_from_slice_get ys at.0 c c at.1)

rearranged_from : (old new : List ℕ) → ((c : ℕ) → count c new ≡ count c old) → AreRearranged old new
rearranged_from old new often = record { often = often; same = λ c. (held_again c old new (often c), held_again c new old (sym (often c))) }

-- what a move of one vehicle leaves of its route
abbrev RearrangedBy : List (List ℕ) → Changes → Type 0
RearrangedBy routes [] = Unit {0}
RearrangedBy routes (c ∷ []) = AreRearranged (route_at routes c.0) c.1
RearrangedBy routes (c ∷ (d ∷ ds)) = Unit {0}

each_rearranged : (n : ℕ) (routes : List (List ℕ)) (mv : Move) → IsRearranging mv → is_possible n routes mv ≡ true → RearrangedBy routes (changes_by routes mv)
each_rearranged n routes (Insert c v p) kind t = absurd kind
each_rearranged n routes (Remove v p) kind t = absurd kind
each_rearranged n routes (Shift v p m to at) kind t =
    by_vehicles (RearrangedBy routes) v to _ _
    (λ e. rearranged_from (route_at routes v) (with_stretch (without (route_at routes v) p m) at (stretch (route_at routes v) p m)) (λ c. shift_count c (route_at routes v) p m at))
    (λ o. tt)
each_rearranged n routes (Swap v p w q) kind t =
    let f = can_swap n routes v p w q t in
    let r = route_at routes v in
    by_vehicles (RearrangedBy routes) v w _ _
    (λ e.
    let there : q ≤ length r = subst (λ (u : ℕ). q ≤ length (route_at routes u)) (sym e) f.at.high in
    rearranged_from r (with_customer (with_customer r p (customer_at r q)) q (customer_at r p)) (λ c. swap_count c r p q f.place.low f.place.high f.at.low there (f.apart e)))
    (λ o. tt)
each_rearranged n routes (Reverse v i j) kind t =
    let f = can_reverse n routes v i j t in
    rearranged_from (route_at routes v) (reversed_within (route_at routes v) i j) (λ c. reverse_count c (route_at routes v) i j f.low f.order)
each_rearranged n routes (Cross v k w l) kind t = tt

pub moves_rearrange : (n : ℕ) (routes : List (List ℕ)) (mv : Move) (v : ℕ) (r : List ℕ) → IsRearranging mv → effect n routes mv ≡ Some ((v, r) ∷ [])
    → AreRearranged (route_at routes v) r
moves_rearrange n routes mv v r kind e =
    let p = possible_from_effect n routes mv ((v, r) ∷ []) e in
    subst (RearrangedBy routes) p.1 (each_rearranged n routes mv kind p.0)
