-- Routes that lanes were put over.
use Rattle.std.proofs.Common.{◌≡◌, ℕ, suc, ◌+◌, ◌-◌, ◌<◌, ◌≤◌, ◌⊎◌, inl, inr, Bool, true, false, List, [], ◌∷◌, length, length-set, map, Contains, refl, sym, ap, ◌∙◌, arith}
use Rattle.std.specs.Prelude.{slice_index_or, slice_set, nat_lt}
use Rattle.std.proofs.lemmas.Bool.{cases_eq}
use Rattle.std.proofs.lemmas.Bool.Decides.{nat_tests}
use Rattle.std.proofs.lemmas.List.{get_or-set_same, get_or-set_other, get_or-map, get_or_default, length-map}
use Rattle.std.proofs.lemmas.List.Elements.{Contains-get_or}
use mathlib.Core.List.{IsPrefix}
use Rattle.dimension_core.specs.Setting.{Setting}
use Rattle.plan_core.specs.Plan.{route_at}
use Rattle.board_rules.specs.declared.call.Entry.{Entry}
use Rattle.board_rules.specs.History.{state_after}
use Rattle.board_rules.specs.Good.{IsGood}
use Rattle.published_board.specs.declared.shown.Mark.{Mark}
use Rattle.published_board.specs.declared.shown.Shelf.{Shelf}
use Rattle.published_board.specs.Written.{AreCells}
use Rattle.published_board.specs.Lanes.{no_mark, lane_at, route_in, renewed, renewed_by}
use Rattle.published_board.specs.Shelves.{Shows}
use Rattle.published_board.proofs.Written.{first, later, first_or_later, none_in}

-- lists that are one at each place
pub list_same : {X : Type 0} (none : X) (xs ys : List X) → length xs ≡ length ys → ((k : ℕ) → k < length ys → slice_index_or xs k none ≡ slice_index_or ys k none) → xs ≡ ys
list_same none [] [] e h = refl
list_same none [] (y ∷ ys) e h = absurd (omega (arith, e))
list_same none (x ∷ xs) [] e h = absurd (omega (arith, e))
list_same none (x ∷ xs) (y ∷ ys) e h =
    let heads : x ≡ y = h 0 (omega arith) in
    let tails : xs ≡ ys = list_same none xs ys (omega (arith, e)) (λ k below. h (suc k) (omega (arith, below))) in
    (λ i. heads i ∷ tails i)

-- cells are the list whose values they are
pub same_cells : {V : Type 0} (n : ℕ) (none : V) (xs cells : List V) → length xs ≡ n → AreCells n none (λ k. slice_index_or xs (k - 1) none) cells → cells ≡ xs
same_cells n none xs cells sized are =
    list_same none cells xs (are.sized ∙ sym sized) (λ k below.
    let at : k + 1 - 1 ≡ k = omega arith in
    ap (λ (m : ℕ). slice_index_or cells m none) (sym at) ∙ (are.each (k + 1) (omega arith) (omega (arith, below, sized)) ∙ ap (λ (m : ℕ). slice_index_or xs m none) at))

pub decide : (b : Bool) → (b ≡ true) ⊎ (b ≡ false)
decide true = inl refl
decide false = inr refl

-- the routes in the lanes are those of the state
pub routes_right : (s : Setting) (es : List Entry) (p : Shelf) → IsGood s (state_after s es) → Shows s es p → map route_in p.lanes ≡ (state_after s es).routes
routes_right s es p good a =
    let rs : List (List ℕ) = (state_after s es).routes in
    let sized : length p.lanes ≡ length rs = a.sized ∙ sym good.sized in
    list_same [] (map route_in p.lanes) rs (length-map p.lanes route_in ∙ sized) (λ k below.
    let at : k + 1 - 1 ≡ k = omega arith in
    let lane = a.lanes (k + 1) (omega arith) (omega (arith, below, good.sized)) in
    get_or-map route_in p.lanes k no_mark [] (omega (arith, below, sized))
    ∙ (ap (λ (j : ℕ). route_in (slice_index_or p.lanes j no_mark)) (sym at) ∙ (lane.route ∙ ap (λ (j : ℕ). slice_index_or rs j []) at)))

-- the lanes are of vehicles counted from 1, those of one vehicle have this route, and either it stands there or one of them is newer
abbrev pub Leads : ℕ → ℕ → List ℕ → List Mark → List (List ℕ) → Type 0
Leads n k y ms rs =
    ((m : Mark) → Contains ms m → 1 ≤ m.vehicle) × ((m : Mark) → Contains ms m → m.vehicle ≡ k → route_in m ≡ y)
    × ((route_at rs k ≡ y) ⊎ ((m : Mark) × Contains ms m × (m.vehicle ≡ k) × (nat_lt n m.entry ≡ true)))

-- what one lane leaves to the others
leads_on : (n k : ℕ) (y : List ℕ) (m : Mark) (ms : List Mark) (rs : List (List ℕ)) → 1 ≤ k → k ≤ length rs → (nat_lt n m.entry ≡ true) ⊎ (nat_lt n m.entry ≡ false)
    → Leads n k y (m ∷ ms) rs → Leads n k y ms (renewed_by n rs m)
leads_on n k y m ms rs low high (inl so) leads =
    let next : List (List ℕ) = slice_set rs (m.vehicle - 1) (route_in m) in
    let start : 1 ≤ m.vehicle = leads.0 m (first m ms) in
    rw so (
      λ x at. leads.0 x (later m x ms at),
      λ x at. leads.1 x (later m x ms at),
      elim (cases_eq m.vehicle k) [
        | inl same ↦
            let set : slice_index_or next (m.vehicle - 1) [] ≡ route_in m = get_or-set_same rs (m.vehicle - 1) (route_in m) [] (omega (arith, same, low, high)) in
            inl (ap (λ (j : ℕ). slice_index_or next (j - 1) []) (sym same) ∙ (set ∙ leads.1 m (first m ms) same))
        | inr other ↦
            let kept : slice_index_or next (k - 1) [] ≡ slice_index_or rs (k - 1) [] = get_or-set_other rs (m.vehicle - 1) (k - 1) (route_in m) [] (λ e. other (omega (arith, e, start, low))) in
            elim leads.2 [
              | inl e ↦ inl (kept ∙ e)
              | inr at ↦ elim (first_or_later m at.0 ms at.1) [
                | inl here ↦ absurd (other (ap (λ (x : Mark). x.vehicle) here ∙ at.2))
                | inr there ↦ inr (at.0, there, at.2, at.3)
              ]
            ]
      ],
    )
leads_on n k y m ms rs low high (inr old) leads =
    rw old (
      λ x at. leads.0 x (later m x ms at),
      λ x at. leads.1 x (later m x ms at),
      elim leads.2 [
        | inl e ↦ inl e
        | inr at ↦ elim (first_or_later m at.0 ms at.1) [
          | inl here ↦ absurd (cc (old, ap (λ (x : Mark). nat_lt n x.entry) here ∙ at.3))
          | inr there ↦ inr (at.0, there, at.2, at.3)
        ]
      ],
    )

sized_by : (n : ℕ) (m : Mark) (rs : List (List ℕ)) → length (renewed_by n rs m) ≡ length rs
sized_by n m rs = elim (decide (nat_lt n m.entry)) [
  | inl so ↦ rw so (length-set rs (m.vehicle - 1) (route_in m))
  | inr old ↦ rw old refl
]

renewed_at : (n k : ℕ) (y : List ℕ) (ms : List Mark) (rs : List (List ℕ)) → 1 ≤ k → k ≤ length rs → Leads n k y ms rs → route_at (renewed n ms rs) k ≡ y
renewed_at n k y [] rs low high leads = elim leads.2 [
  | inl e ↦ e
  | inr at ↦ absurd (none_in at.0 at.1)
]
renewed_at n k y (m ∷ ms) rs low high leads =
    let sized = sized_by n m rs in
    renewed_at n k y ms (renewed_by n rs m) low (omega (arith, sized, high)) (leads_on n k y m ms rs low high (decide (nat_lt n m.entry)) leads)

sized_renewed : (n : ℕ) (ms : List Mark) (rs : List (List ℕ)) → length (renewed n ms rs) ≡ length rs
sized_renewed n [] rs = refl
sized_renewed n (m ∷ ms) rs = sized_renewed n ms (renewed_by n rs m) ∙ sized_by n m rs

-- the routes of a state, once the newer lanes of cells were put over them, are those of the state that the cells show
pub renewed_right : (s : Setting) (es before : List Entry) (p : Shelf) (n : ℕ) → IsGood s (state_after s es) → IsGood s (state_after s before) → Shows s es p
    → IsPrefix before es → n ≡ length before → renewed n p.lanes (state_after s before).routes ≡ (state_after s es).routes
renewed_right s es before p n good was a pre count =
    let rs : List (List ℕ) = (state_after s es).routes in
    let old : List (List ℕ) = (state_after s before).routes in
    let sized : length old ≡ length rs = was.sized ∙ sym good.sized in
    list_same [] (renewed n p.lanes old) rs (sized_renewed n p.lanes old ∙ sized) (λ k below.
    let at : k + 1 - 1 ≡ k = omega arith in
    let here : k + 1 ≤ s.vehicles = omega (arith, below, good.sized) in
    let lane = a.lanes (k + 1) (omega arith) here in
    ap (λ (j : ℕ). slice_index_or (renewed n p.lanes old) j []) (sym at)
    ∙ (renewed_at n (k + 1) (route_at rs (k + 1)) p.lanes old (omega arith) (omega (arith, below, sized)) (low_all, one, newer k here)
    ∙ ap (λ (j : ℕ). slice_index_or rs j []) at))
  where
    -- the lane at a place is its vehicle's
    at_place : (m : Mark) → Contains p.lanes m → (v : ℕ) × (1 ≤ v) × (v ≤ s.vehicles) × (lane_at p.lanes v ≡ m)
    at_place m c =
        let sized = a.sized in
        let below = c.1 in
        let at : c.0 + 1 - 1 ≡ c.0 = omega arith in
        (c.0 + 1, omega arith, omega (arith, below, sized), ap (λ (j : ℕ). slice_index_or p.lanes j no_mark) at ∙ (get_or_default p.lanes c.0 no_mark m below ∙ c.2))

    low_all : (m : Mark) → Contains p.lanes m → 1 ≤ m.vehicle
    low_all m c =
        let t = at_place m c in
        let v : m.vehicle ≡ t.0 = ap (λ (x : Mark). x.vehicle) (sym t.3) ∙ (a.lanes t.0 t.1 t.2).vehicle in
        let low = t.1 in omega (arith, v, low)

    one : {k : ℕ} (m : Mark) → Contains p.lanes m → m.vehicle ≡ k → route_in m ≡ route_at (state_after s es).routes k
    one m c is =
        let t = at_place m c in
        let lane = a.lanes t.0 t.1 t.2 in
        let v : t.0 ≡ m.vehicle = sym lane.vehicle ∙ ap (λ (x : Mark). x.vehicle) t.3 in
        ap route_in (sym t.3) ∙ (lane.route ∙ ap (route_at (state_after s es).routes) (v ∙ is))

    newer : (k : ℕ) → k + 1 ≤ s.vehicles
        → (route_at (state_after s before).routes (k + 1) ≡ route_at (state_after s es).routes (k + 1)) ⊎ ((m : Mark) × Contains p.lanes m × (m.vehicle ≡ k + 1) × (nat_lt n m.entry ≡ true))
    newer k here =
        let lane = a.lanes (k + 1) (omega arith) here in
        let m : Mark = lane_at p.lanes (k + 1) in
        let sized = a.sized in
        elim (decide (nat_lt n m.entry)) [
          | inl so ↦ inr (m, Contains-get_or p.lanes (k + 1 - 1) no_mark (omega (arith, here, sized)), lane.vehicle, so)
          | inr old ↦ inl (lane.stays before pre (grind (arith, nat_tests, count)))
        ]
