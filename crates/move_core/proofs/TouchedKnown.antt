use Rattle.std.proofs.Common.{◌≡◌, ℕ, zero, suc, ◌+◌, ◌-◌, ◌<◌, ◌≤◌, ◌∙◌, sym, refl, arith, List, [], ◌∷◌, length, take, drop, slice_get, Some, All, true}
use Rattle.std.proofs.lemmas.List.{length-take}
use Rattle.std.proofs.lemmas.List.Elements.{All-nil, All-cons, All-append}
use Rattle.std.proofs.lemmas.Option.{slice_get_within, slice_get-get_or}
use Rattle.plan_core.specs.declared.touch.Touch.{Touch}
use Rattle.plan_core.specs.Plan.{IsPlan, route_at}
use Rattle.move_core.specs.declared.moves.Move.{Move}
use Rattle.move_core.specs.declared.moves.Move.TheVariants.{Insert, Remove, Shift, Swap, Reverse, Cross}
use Rattle.move_core.specs.Moves.{is_possible, stretch, customer_at}
use Rattle.move_core.specs.Touched.{touches, touched_by}
use Rattle.move_core.proofs.Facts.{can_insert, can_remove, can_swap}
use Rattle.move_core.proofs.FirstChange.{slice_get-take, slice_get-drop}
use Rattle.move_core.proofs.Tally.{stands_at}

-- a touch of a known customer
abbrev IsKnown : ℕ → Touch → Type 0
IsKnown n t = (1 ≤ t.customer) × (t.customer ≤ n)

all_touches : (n v p : ℕ) (cs : List ℕ) → ((i c : ℕ) → slice_get cs i ≡ Some c → (1 ≤ c) × (c ≤ n)) → All (IsKnown n) (touches v p cs)
all_touches n v p [] each = All-nil (IsKnown n)
all_touches n v p (c ∷ cs) each =
    All-cons (IsKnown n) (record { vehicle = v; place = p; customer = c }) (touches v (p + 1) cs) (each zero c refl) (all_touches n v (p + 1) cs (λ i. each (suc i)))

one_touch : (n v p c : ℕ) → (1 ≤ c) × (c ≤ n) → All (IsKnown n) (touches v p (c ∷ []))
one_touch n v p c known = All-cons (IsKnown n) (record { vehicle = v; place = p; customer = c }) [] known (All-nil (IsKnown n))

-- who stands on a route of a plan is known
standing : (n : ℕ) (routes : List (List ℕ)) (v i c : ℕ) → IsPlan n routes → slice_get (route_at routes v) i ≡ Some c → (1 ≤ c) × (c ≤ n)
standing n routes v i c plan e = plan.known c (v - 1 + 1) (i + 1) (stands_at routes c (v - 1) i e)

in_stretch : (n : ℕ) (routes : List (List ℕ)) (v p m i c : ℕ) → IsPlan n routes → slice_get (stretch (route_at routes v) p m) i ≡ Some c → (1 ≤ c) × (c ≤ n)
in_stretch n routes v p m i c plan e =
    let inside : i < length (take m (drop (p - 1) (route_at routes v))) = slice_get_within (stretch (route_at routes v) p m) i c e in
    let long = length-take m (drop (p - 1) (route_at routes v)) in
    standing n routes v (p - 1 + i) c plan
    (sym (slice_get-drop (route_at routes v) (p - 1) i) ∙ sym (slice_get-take (drop (p - 1) (route_at routes v)) m i (omega arith)) ∙ e)

in_tail : (n : ℕ) (routes : List (List ℕ)) (v k i c : ℕ) → IsPlan n routes → slice_get (drop k (route_at routes v)) i ≡ Some c → (1 ≤ c) × (c ≤ n)
in_tail n routes v k i c plan e = standing n routes v (k + i) c plan (sym (slice_get-drop (route_at routes v) k i) ∙ e)

at_place : (n : ℕ) (routes : List (List ℕ)) (v p : ℕ) → IsPlan n routes → 1 ≤ p → p ≤ length (route_at routes v)
    → (1 ≤ customer_at (route_at routes v) p) × (customer_at (route_at routes v) p ≤ n)
at_place n routes v p plan low high = standing n routes v (p - 1) (customer_at (route_at routes v) p) plan (slice_get-get_or (route_at routes v) (p - 1) 0 (omega arith))

-- a move touches customers of the plan alone
pub touched_known : (n : ℕ) (routes : List (List ℕ)) (mv : Move) → IsPlan n routes → is_possible n routes mv ≡ true
    → All (λ t. (1 ≤ t.customer) × (t.customer ≤ n)) (touched_by routes mv)
touched_known n routes (Insert c v p) plan t = let f = can_insert n routes c v p t in one_touch n v p c (f.customer.low, f.customer.high)
touched_known n routes (Remove v p) plan t =
    let f = can_remove n routes v p t in one_touch n v p (customer_at (route_at routes v) p) (at_place n routes v p plan f.place.low f.place.high)
touched_known n routes (Shift v p m to at) plan t = all_touches n v p (stretch (route_at routes v) p m) (λ i c. in_stretch n routes v p m i c plan)
touched_known n routes (Swap v p w q) plan t =
    let f = can_swap n routes v p w q t in
    All-append (IsKnown n) (touches v p (customer_at (route_at routes v) p ∷ [])) (touches w q (customer_at (route_at routes w) q ∷ []))
    (one_touch n v p (customer_at (route_at routes v) p) (at_place n routes v p plan f.place.low f.place.high))
    (one_touch n w q (customer_at (route_at routes w) q) (at_place n routes w q plan f.at.low f.at.high))
touched_known n routes (Reverse v i j) plan t =
    all_touches n v i (stretch (route_at routes v) i (j - i + 1)) (λ k c. in_stretch n routes v i (j - i + 1) k c plan)
touched_known n routes (Cross v k w l) plan t =
    All-append (IsKnown n) (touches v (k + 1) (drop k (route_at routes v))) (touches w (l + 1) (drop l (route_at routes w)))
    (all_touches n v (k + 1) (drop k (route_at routes v)) (λ i c. in_tail n routes v k i c plan))
    (all_touches n w (l + 1) (drop l (route_at routes w)) (λ i c. in_tail n routes w l i c plan))
