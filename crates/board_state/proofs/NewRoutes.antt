-- The new routes of a judged call lead from the state on which it was judged to the state after it.
use Rattle.std.proofs.Common.{◌≡◌, ℕ, ◌+◌, ◌-◌, ◌<◌, ◌∙◌, refl, sym, ap, subst, arith, List, [], ◌∷◌, ◌++◌, length, take, get_or, slice_index, Result, Ok, Err}
use Rattle.std.specs.declared.sync.Arc.{Arc}
use Rattle.std.proofs.lemmas.List.{map-append, take_more}
use Rattle.std.proofs.lemmas.Option.{slice_get-get_or}
use Rattle.std.specs.Prelude.{slice_get, slice_set, option_to_list, IfOk}
use Rattle.std.proofs.Common.{length-set}
use Rattle.std.proofs.lemmas.Grind.{same_number_lists}
use Rattle.std.proofs.lemmas.List.FromFn.{length-map-range_with_len, get_or-map-range_with_len}
use Rattle.dimension_core.specs.Setting.{Setting}
use Rattle.plan_core.specs.Commits.{AreStamps, last_commit}
use Rattle.plan_core.specs.Plan.{Changes, PlanState, AreApart, AreSizes, changes_of, with_routes, with_stamps}
use Rattle.board_rules.specs.Delta.{AreRoutesOf, stamps_of}
use Rattle.board_rules.specs.State.{BoardState}
use Rattle.board_state.specs.declared.change.Change.{Change}
use Rattle.board_state.specs.declared.change.Change.TheVariants.{Nothing, Replace, Pins, Command}
use Rattle.board_state.specs.Changes.{WillHold, IsSettleable, plan_after}
use Rattle.board_state.specs.Deltas.{changed_routes}
use Rattle.board_state.specs.Held.{HeldState, Holds}

-- the plan once the change is in place, by its new routes
routes_after : (plan : PlanState) (change : Change) → (plan_after plan change).routes ≡ with_routes (changed_routes change) plan.routes
routes_after plan Nothing = refl
routes_after plan (Replace commit) = refl
routes_after plan (Pins change) = refl
routes_after plan (Command rows command) = refl

stamps_after : (plan : PlanState) (change : Change) → (plan_after plan change).stamps ≡ with_stamps (changed_routes change) (plan_after plan change).version plan.stamps
stamps_after plan Nothing = refl
stamps_after plan (Replace commit) = refl
stamps_after plan (Pins change) = refl
stamps_after plan (Command rows command) = refl

as_many : (changes : Changes) (n : ℕ) (stamps : List ℕ) → length (with_stamps changes n stamps) ≡ length stamps
as_many [] n stamps = refl
as_many (c ∷ cs) n stamps = as_many cs n (slice_set stamps (c.0 - 1) n) ∙ length-set stamps (c.0 - 1) n

-- the stamps of a plan are those of its commits
stamps_are : (commits : List (List ℕ)) (plan : PlanState) (n : ℕ) → AreStamps commits plan → length plan.stamps ≡ n → stamps_of n commits ≡ plan.stamps
stamps_are commits plan n are sized =
    same_number_lists (stamps_of n commits) plan.stamps (length-map-range_with_len (λ v. last_commit v commits) 1 n ∙ sym sized)
    (λ k h. let long = length-map-range_with_len (λ v. last_commit v commits) 1 n in
    let below : k < n = omega (arith, long, h) in
    let back : k + 1 - 1 ≡ k = omega arith in
    get_or-map-range_with_len (λ v. last_commit v commits) 1 n k (k + 1) 0 below (omega arith)
    ∙ sym (are.stamps (k + 1) (omega arith) (omega (arith, below, sized))) ∙ ap (slice_index plan.stamps) back)

apart_of : (held : HeldState) (change : Change) → IsSettleable held change → AreApart (length held.plan.routes) (changed_routes change)
apart_of held Nothing ready = tt
apart_of held (Replace commit) ready = ready.routes.changes.apart
apart_of held (Pins change) ready = tt
apart_of held (Command rows command) ready = tt

pub routes_right : (s : Setting) (held : HeldState) (change : Change) (state next : BoardState) → AreSizes held.plan → IsSettleable held change → Holds s held state
    → WillHold s held change next → AreRoutesOf state next (changed_routes change)
routes_right s held change state next sizes ready holds will =
    let n : ℕ = length state.routes in
    let sized : length held.plan.stamps ≡ n = sizes.stamps ∙ ap length holds.routes in
    let before : stamps_of n state.commits ≡ held.plan.stamps = stamps_are state.commits held.plan n holds.stamps sized in
    let long : length (plan_after held.plan change).stamps ≡ n =
    ap length (stamps_after held.plan change) ∙ as_many (changed_routes change) (plan_after held.plan change).version held.plan.stamps ∙ sized in
    record {
      apart = subst (λ (rs : List (List ℕ)). AreApart (length rs) (changed_routes change)) holds.routes (apart_of held change ready);
      routes = ap (λ (rs : List (List ℕ)). with_routes (changed_routes change) rs) (sym holds.routes) ∙ sym (routes_after held.plan change) ∙ will.routes;
      stamps = stamps_are next.commits (plan_after held.plan change) n will.stamps long ∙ stamps_after held.plan change
          ∙ ap (λ (m : ℕ). with_stamps (changed_routes change) m held.plan.stamps) will.stamps.version
          ∙ ap (λ (xs : List ℕ). with_stamps (changed_routes change) (length next.commits) xs) (sym before);
    }

pub ok_then : {X E : Type 0} (P Q : X → Type 0) (result : Result X E) → ((x : X) → P x → Q x) → IfOk result P → IfOk result Q
ok_then P Q (Ok x) f p = f x p
ok_then P Q (Err e) f p = tt

-- one route more is there once more
pub again_more : {Z : Type 0} (xs all : List (ℕ × Arc (List ℕ) Z)) (k : ℕ) (x y : ℕ × Arc (List ℕ) Z) → changes_of xs ≡ changes_of (take k all) → k < length all → y ≡ get_or all k y
    → x.0 ≡ y.0 → x.1.value ≡ y.1.value → changes_of (xs ++ x ∷ []) ≡ changes_of (take (k + 1) all)
again_more xs all k x y so_far h is same alike =
    map-append (λ c. (c.0, c.1.value)) xs (x ∷ [])
    ∙ ((λ i. so_far i ++ (same i, alike i) ∷ [])
    ∙ (ap (λ z. changes_of (take k all) ++ (z.0, z.1.value) ∷ []) is
    ∙ (sym (map-append (λ c. (c.0, c.1.value)) (take k all) (get_or all k y ∷ [])) ∙ ap changes_of (sym (take_more all k y h)))))

pub again_one : {Z : Type 0} (all : List (ℕ × Arc (List ℕ) Z)) (k : ℕ) (x : ℕ × Arc (List ℕ) Z) (route : Arc (List ℕ) Z) → k < length all → x ≡ get_or all k x → route.value ≡ x.1.value
    → (x.0, route.value) ∷ [] ≡ changes_of (option_to_list (slice_get all k))
again_one all k x route h is alike =
    (λ i. (x.0, alike i) ∷ []) ∙ (ap (λ z. (z.0, z.1.value) ∷ []) is ∙ ap (λ o. changes_of (option_to_list o)) (sym (slice_get-get_or all k x h)))
