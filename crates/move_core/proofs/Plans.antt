use Rattle.std.proofs.Common.{◌≡◌, ◌≢◌, ℕ, zero, suc, ◌+◌, ◌-◌, ◌≤◌, ◌⊎◌, ◌∙◌, sym, subst, refl, arith, inl, inr, List, [], ◌∷◌, length, slice_set, true, false}
use Rattle.std.proofs.lemmas.Bool.{cases_eq}
use Rattle.std.proofs.lemmas.List.Sums.{sum_by-set}
use Rattle.plan_core.specs.Plan.{Changes, IsPlan, route_at, with_routes}
use Rattle.move_core.specs.declared.moves.Move.{Move}
use Rattle.move_core.specs.declared.moves.Move.TheVariants.{Insert, Remove, Shift, Swap, Reverse, Cross}
use Rattle.move_core.specs.Moves.{is_placed, is_possible, changes_by, stretch, without, with_stretch, with_customer, customer_at, reversed_within, crossed}
use Rattle.move_core.proofs.Facts.{can_insert, can_remove, can_shift, can_swap, can_reverse, can_cross}
use Rattle.move_core.proofs.PlanLaws.{PlanLaws}
use Rattle.move_core.proofs.Placed.{placed_from_stands}
use Rattle.move_core.proofs.Rearranging.{count-without, shift_count, swap_count, reverse_count}
use Rattle.move_core.proofs.Effects.{by_vehicles}
use Rattle.move_core.specs.Rearranged.{count}
use Rattle.move_core.proofs.Tally.{once, tally, once_same, once_other, count-cons, place_of_tally, tally_of_plan, known_of_tally, plan_from_tally, stands_at, count-more, count-crossed, tally-one, tally-two}

-- no customer is counted more often than before
abbrev FewerOf : List (List ℕ) → Changes → Type 0
FewerOf routes changes = (c : ℕ) → tally c (with_routes changes routes) ≤ tally c routes

plan_from_fewer : (n : ℕ) (routes : List (List ℕ)) (changes : Changes) → IsPlan n routes → FewerOf routes changes → IsPlan n (with_routes changes routes)
plan_from_fewer n routes changes plan fewer =
    plan_from_tally n (with_routes changes routes)
    (λ c. let most = tally_of_plan n routes c plan in let less = fewer c in omega arith)
    (λ c h. let less = fewer c in known_of_tally n routes c plan (omega arith))

fewer_one : (routes : List (List ℕ)) (v : ℕ) (r : List ℕ) → 1 ≤ v → v ≤ length routes → ((c : ℕ) → count c r ≤ count c (route_at routes v)) → FewerOf routes ((v, r) ∷ [])
fewer_one routes v r low high less c = let all = tally-one c routes v r low high in let one = less c in omega arith

fewer_two : (routes : List (List ℕ)) (v w : ℕ) (r q : List ℕ) → 1 ≤ v → v ≤ length routes → 1 ≤ w → w ≤ length routes → v ≢ w
    → ((c : ℕ) → count c r + count c q ≡ count c (route_at routes v) + count c (route_at routes w)) → FewerOf routes ((v, r) ∷ (w, q) ∷ [])
fewer_two routes v w r q low high here top o same c = let all = tally-two c routes v w r q low high here top o in let one = same c in omega arith

kept_one : (n : ℕ) (routes : List (List ℕ)) (v : ℕ) (r : List ℕ) → IsPlan n routes → 1 ≤ v → v ≤ length routes → ((c : ℕ) → count c r ≤ count c (route_at routes v))
    → IsPlan n (slice_set routes (v - 1) r)
kept_one n routes v r plan low high less = plan_from_fewer n routes ((v, r) ∷ []) plan (fewer_one routes v r low high less)

kept_two : (n : ℕ) (routes : List (List ℕ)) (v w : ℕ) (r q : List ℕ) → IsPlan n routes → 1 ≤ v → v ≤ length routes → 1 ≤ w → w ≤ length routes → v ≢ w
    → ((c : ℕ) → count c r + count c q ≡ count c (route_at routes v) + count c (route_at routes w)) → IsPlan n (slice_set (slice_set routes (v - 1) r) (w - 1) q)
kept_two n routes v w r q plan low high here top o same = plan_from_fewer n routes ((v, r) ∷ (w, q) ∷ []) plan (fewer_two routes v w r q low high here top o same)

-- a customer that stands nowhere is not counted
free_tally : PlanLaws → (routes : List (List ℕ)) (c : ℕ) → is_placed routes c ≡ false → tally c routes ≡ 0
free_tally law routes c free = split (tally c routes) refl
  where
    split : (m : ℕ) → tally c routes ≡ m → tally c routes ≡ 0
    split zero e = e
    split (suc m) e =
        let at = place_of_tally c routes (omega arith) in
        let yes = placed_from_stands law routes c (at.0 + 1) (at.1.0 + 1) (stands_at routes c at.0 at.1.0 at.1.1) in
        let both : true ≡ false = sym yes ∙ free in
        absurd cc

-- an inserted customer stood nowhere
inserted_plan : PlanLaws → (n : ℕ) (routes : List (List ℕ)) (d v p : ℕ) → IsPlan n routes → is_possible n routes (Insert d v p) ≡ true
    → IsPlan n (with_routes ((v, with_stretch (route_at routes v) p (d ∷ [])) ∷ []) routes)
inserted_plan law n routes d v p plan t =
    plan_from_tally n (with_routes ((v, with_stretch (route_at routes v) p (d ∷ [])) ∷ []) routes) (λ c. few c (cases_eq d c)) (λ c h. known c h (cases_eq d c))
  where
    balance : (c : ℕ) → tally c (slice_set routes (v - 1) (with_stretch (route_at routes v) p (d ∷ []))) ≡ tally c routes + once c d
    balance c =
        let f = can_insert n routes d v p t in
        let all = tally-one c routes v (with_stretch (route_at routes v) p (d ∷ [])) f.vehicle.low f.vehicle.high in
        let more = count-more c (route_at routes v) (d ∷ []) (p - 1) in
        let one : count c (d ∷ []) ≡ once c d + count c [] = count-cons c d [] in
        let zero_of : count c [] ≡ 0 = refl in
        omega arith

    few : (c : ℕ) → (d ≡ c) ⊎ (d ≡ c → ⊥) → tally c (slice_set routes (v - 1) (with_stretch (route_at routes v) p (d ∷ []))) ≤ 1
    few c (inl e) =
        let all = balance c in
        let one = once_same c d e in
        let none : tally c routes ≡ 0 = subst (λ (m : ℕ). tally m routes ≡ 0) e (free_tally law routes d (can_insert n routes d v p t).customer.free) in
        omega arith
    few c (inr o) = let all = balance c in let none = once_other c d o in let most = tally_of_plan n routes c plan in omega arith

    known : (c : ℕ) → 1 ≤ tally c (slice_set routes (v - 1) (with_stretch (route_at routes v) p (d ∷ []))) → (d ≡ c) ⊎ (d ≡ c → ⊥) → (1 ≤ c) × (c ≤ n)
    known c h (inl e) =
        let f = can_insert n routes d v p t in (subst (λ (m : ℕ). 1 ≤ m) e f.customer.low, subst (λ (m : ℕ). m ≤ n) e f.customer.high)
    known c h (inr o) = let all = balance c in let none = once_other c d o in known_of_tally n routes c plan (omega arith)

-- a move that has an effect keeps the plan
pub plan_kept : PlanLaws → (n : ℕ) (routes : List (List ℕ)) (mv : Move) → IsPlan n routes → is_possible n routes mv ≡ true → IsPlan n (with_routes (changes_by routes mv) routes)
plan_kept law n routes (Insert c v p) plan t = inserted_plan law n routes c v p plan t
plan_kept law n routes (Remove v p) plan t =
    let f = can_remove n routes v p t in
    (kept_one n routes v (without (route_at routes v) p 1) plan f.vehicle.low f.vehicle.high (λ c. let all = count-without c (route_at routes v) p 1 in omega arith))
plan_kept law n routes (Shift v p m to at) plan t =
    let f = can_shift n routes v p m to at t in
    let r = route_at routes v in
    by_vehicles (λ changes. IsPlan n (with_routes changes routes)) v to _ _
    (λ e. (kept_one n routes v (with_stretch (without r p m) at (stretch r p m)) plan f.from.vehicle.low f.from.vehicle.high
    (λ c. let all = shift_count c r p m at in omega arith)))
    (λ o. (kept_two n routes v to (without r p m) (with_stretch (route_at routes to) at (stretch r p m)) plan f.from.vehicle.low f.from.vehicle.high f.onto.vehicle.low f.onto.vehicle.high o
    (λ c. let less = count-without c r p m in let more = count-more c (route_at routes to) (stretch r p m) (at - 1) in omega arith)))
plan_kept law n routes (Swap v p w q) plan t =
    let f = can_swap n routes v p w q t in
    let r = route_at routes v in
    let s = route_at routes w in
    let low : 1 ≤ p = f.place.low in
    let high : p ≤ length r = f.place.high in
    let here : 1 ≤ q = f.at.low in
    let top : q ≤ length s = f.at.high in
    by_vehicles (λ changes. IsPlan n (with_routes changes routes)) v w _ _
    (λ e.
    let there : q ≤ length r = subst (λ (u : ℕ). q ≤ length (route_at routes u)) (sym e) top in
    (kept_one n routes v (with_customer (with_customer r p (customer_at r q)) q (customer_at r p)) plan f.vehicle.low f.vehicle.high
    (λ c. let all = swap_count c r p q low high here there (f.apart e) in omega arith)))
    (λ o. (kept_two n routes v w (with_customer r p (customer_at s q)) (with_customer s q (customer_at r p)) plan f.vehicle.low f.vehicle.high f.other.low f.other.high o
    (λ c.
    let one = sum_by-set (once c) r (p - 1) (customer_at s q) 0 (omega arith) in
    let two = sum_by-set (once c) s (q - 1) (customer_at r p) 0 (omega arith) in
    omega arith)))
plan_kept law n routes (Reverse v i j) plan t =
    let f = can_reverse n routes v i j t in
    (kept_one n routes v (reversed_within (route_at routes v) i j) plan f.vehicle.low f.vehicle.high
    (λ c. let all = reverse_count c (route_at routes v) i j f.low f.order in omega arith))
plan_kept law n routes (Cross v k w l) plan t =
    let f = can_cross n routes v k w l t in
    let r = route_at routes v in
    let s = route_at routes w in
    (kept_two n routes v w (crossed r k s l) (crossed s l r k) plan f.vehicle.low f.vehicle.high f.other.low f.other.high f.apart
    (λ c. count-crossed c (route_at routes v) (route_at routes w) k l))
