-- The lanes after new routes came.
use Rattle.std.proofs.Common.{◌≡◌, ℕ, ◌-◌, ◌≤◌, ◌⊎◌, inl, inr, List, [], ◌∷◌, ◌++◌, Option, Some, None, length, length-set, refl, sym, ap, ◌∙◌, arith}
use Rattle.std.specs.Prelude.{slice_index_or, slice_set, option_to_list, All}
use Rattle.std.specs.declared.sync.Arc.{Arc}
use Rattle.std.proofs.lemmas.Bool.{cases_eq}
use Rattle.std.proofs.lemmas.List.{get_or-set_same, get_or-set_other}
use Rattle.std.proofs.lemmas.List.Elements.{All-nil, All-cons, All-head, All-tail}
use Rattle.plan_core.specs.Plan.{Changes, changes_of, IsNamed, AreApart, route_at, with_routes}
use Rattle.published_board.specs.declared.shown.Mark.{Mark}
use Rattle.published_board.specs.Reached.{Reached}
use Rattle.published_board.specs.Lanes.{no_mark, lane_at, lanes_after}

pub sized_after : {R : Type 0} (base : Reached) (n : ℕ) (routes : List (ℕ × R)) (lanes : List Mark) → length (lanes_after base n lanes routes) ≡ length lanes
sized_after base n [] lanes = refl
sized_after base n (c ∷ cs) lanes =
    let mark : Mark = record { vehicle = c.0; since = base; entry = n } in
    sized_after base n cs (slice_set lanes (c.0 - 1) mark) ∙ length-set lanes (c.0 - 1) mark

-- what holds of one new route and of another one, of each of which there may be none
pub each_of : {X : Type 0} (P : X → Type 0) (a b : Option X) → All P (option_to_list a ++ option_to_list b) → All P (option_to_list a) × All P (option_to_list b)
each_of P None b h = (All-nil P, h)
each_of P (Some x) b h = (All-cons P x [] (All-head P x (option_to_list b) h) (All-nil P), All-tail P x (option_to_list b) h)

-- the lanes after some new routes and then others
pub lanes_both : {R : Type 0} (base : Reached) (n : ℕ) (lanes : List Mark) (a b : List (ℕ × R)) → lanes_after base n lanes (a ++ b) ≡ lanes_after base n (lanes_after base n lanes a) b
lanes_both base n lanes [] b = refl
lanes_both base n lanes (c ∷ cs) b = lanes_both base n (slice_set lanes (c.0 - 1) (record { vehicle = c.0; since = base; entry = n })) cs b

-- the lane of a vehicle with a new route is new, and any other one is the old one
pub lane_cases : {Z : Type 0} (base : Reached) (n most v : ℕ) (routes : List (ℕ × Arc (List ℕ) Z)) (lanes : List Mark) → AreApart most (changes_of routes) → 1 ≤ v → v ≤ length lanes
    → (lane_at (lanes_after base n lanes routes) v ≡ record { vehicle = v; since = base; entry = n }) ⊎ ((lane_at (lanes_after base n lanes routes) v ≡ lane_at lanes v) × (IsNamed (changes_of routes) v → ⊥))
lane_cases base n most v [] lanes apart low high = inr (refl, λ h. h)
lane_cases base n most v (c ∷ cs) lanes apart low high =
    let mark : Mark = record { vehicle = c.0; since = base; entry = n } in
    let next : List Mark = slice_set lanes (c.0 - 1) mark in
    let sized : length next ≡ length lanes = length-set lanes (c.0 - 1) mark in
    let start : 1 ≤ c.0 = apart.0 in
    elim (lane_cases base n most v cs next apart.3 low (omega (arith, sized, high))) [
      | inl new ↦ inl new
      | inr old ↦ elim (cases_eq c.0 v) [
        | inl same ↦
            let set : slice_index_or next (c.0 - 1) no_mark ≡ mark = get_or-set_same lanes (c.0 - 1) mark no_mark (omega (arith, same, low, high)) in
            inl (old.0 ∙ (ap (λ (k : ℕ). slice_index_or next (k - 1) no_mark) (sym same) ∙ (set ∙ (λ i. record { vehicle = same i; since = base; entry = n }))))
        | inr other ↦
            let kept : slice_index_or next (v - 1) no_mark ≡ slice_index_or lanes (v - 1) no_mark = get_or-set_other lanes (c.0 - 1) (v - 1) mark no_mark (λ e. other (omega (arith, e, start, low))) in
            inr (
              old.0 ∙ kept,
              λ h. elim h [
                | inl e ↦ other (sym e)
                | inr there ↦ old.1 there
              ],
            )
      ]
    ]

-- a vehicle with no new route keeps its own
pub route_kept : (most v : ℕ) (changes : Changes) (rs : List (List ℕ)) → AreApart most changes → 1 ≤ v → (IsNamed changes v → ⊥) → route_at (with_routes changes rs) v ≡ route_at rs v
route_kept most v [] rs apart low other = refl
route_kept most v (c ∷ cs) rs apart low other =
    let start : 1 ≤ c.0 = apart.0 in
    route_kept most v cs (slice_set rs (c.0 - 1) c.1) apart.3 low (λ h. other (inr h))
    ∙ get_or-set_other rs (c.0 - 1) (v - 1) c.1 [] (λ e. other (inl (omega (arith, e, start, low))))

-- each new route is its vehicle's afterwards
pub named_right : {Z : Type 0} (most : ℕ) (routes : List (ℕ × Arc (List ℕ) Z)) (rs : List (List ℕ)) → most ≡ length rs → AreApart most (changes_of routes)
    → All (λ c. c.1.value ≡ route_at (with_routes (changes_of routes) rs) c.0) routes
named_right most [] rs sized apart = All-nil _
named_right most (c ∷ cs) rs sized apart =
    let start : 1 ≤ c.0 = apart.0 in
    let high : c.0 ≤ most = apart.1 in
    let next : List (List ℕ) = slice_set rs (c.0 - 1) c.1.value in
    All-cons (λ (d : ℕ × Arc (List ℕ) _). d.1.value ≡ route_at (with_routes (changes_of (c ∷ cs)) rs) d.0) c cs
    (sym (route_kept most c.0 (changes_of cs) next apart.3 start apart.2 ∙ get_or-set_same rs (c.0 - 1) c.1.value [] (omega (arith, start, high, sized))))
    (named_right most cs next (sized ∙ sym (length-set rs (c.0 - 1) c.1.value)) apart.3)
