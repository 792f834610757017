-- What a judged change makes different, with its new routes.
use Rattle.std.proofs.Common.{◌≡◌, ℕ, ◌≤◌, ◌++◌, List, [], ◌∷◌, length, Option, refl, sym, ap, subst, ◌∙◌, arith}
use Rattle.std.specs.Prelude.{slice_get, option_to_list}
use Rattle.std.proofs.lemmas.List.{map-append}
use Rattle.std.specs.declared.sync.Arc.{Arc}
use Rattle.dimension_core.specs.Setting.{Setting}
use Rattle.plan_core.specs.Plan.{Changes, AreSizes, changes_of}
use Rattle.pin_core.specs.Pins.{pin_of, front_of}
use Rattle.board_rules.specs.Delta.{AreChangesOf, AreRoutesOf}
use Rattle.board_rules.specs.Good.{IsGood}
use Rattle.board_rules.specs.State.{BoardState}
use Rattle.board_state.specs.declared.change.Change.{Change}
use Rattle.board_state.specs.declared.difference.Difference.{Difference}
use Rattle.board_state.specs.Changes.{WillHold, IsSettleable, plan_after}
use Rattle.board_state.specs.Deltas.{changed_routes, changed_pins, changed_fronts}
use Rattle.board_state.specs.Differences.{IsDifference}
use Rattle.board_state.specs.Held.{HeldState, Holds}
use Rattle.board_state.proofs.Deltas.{delta_right}
use Rattle.board_state.proofs.NewRoutes.{routes_right}
use Rattle.board_state.proofs.Releases.{PinLaws}
use Rattle.board_state.proofs.Spots.{SpotLaws}

-- a short list is its first element and its second one
pair : {A : Type 0} (xs : List A) → length xs ≤ 2 → option_to_list (slice_get xs 0) ++ option_to_list (slice_get xs 1) ≡ xs
pair [] few = refl
pair (x ∷ []) few = refl
pair (x ∷ (y ∷ [])) few = refl
pair (x ∷ (y ∷ (z ∷ xs))) few = absurd (omega (arith, few))

-- two that are the first and the second new route are all of them
pub both_right : {Z : Type 0} (xs : List (ℕ × Arc (List ℕ) Z)) (a b : Option (ℕ × Arc (List ℕ) Z)) → length xs ≤ 2
    → changes_of (option_to_list a) ≡ changes_of (option_to_list (slice_get xs 0)) → changes_of (option_to_list b) ≡ changes_of (option_to_list (slice_get xs 1))
    → changes_of (option_to_list a ++ option_to_list b) ≡ changes_of xs
both_right xs a b few first second =
    map-append (λ c. (c.0, c.1.value)) (option_to_list a) (option_to_list b)
    ∙ ((λ i. first i ++ second i)
    ∙ (sym (map-append (λ c. (c.0, c.1.value)) (option_to_list (slice_get xs 0)) (option_to_list (slice_get xs 1))) ∙ ap changes_of (pair xs few)))

pub difference_right : (law : SpotLaws) (pin_law : PinLaws) (s : Setting) (held : HeldState) (change : Change) (state next : BoardState) (d : Difference)
    → AreSizes held.plan → IsSettleable held change → Holds s held state → IsGood s state → WillHold s held change next
    → changes_of (option_to_list d.first ++ option_to_list d.second) ≡ changed_routes change → d.pins.items ≡ changed_pins change
    → option_to_list d.front ≡ changed_fronts change → d.version ≡ (plan_after held.plan change).version
    → IsDifference s state next d
difference_right law pin_law s held change state next d sizes ready holds good will routes pins front version =
    let delta = delta_right law pin_law s held change state next ready holds good will in
    record {
      routes = subst (λ (cs : Changes). AreRoutesOf state next cs) (sym routes) (routes_right s held change state next sizes ready holds will);
      pins = subst (λ (cs : List (ℕ × Option ℕ)). AreChangesOf s.customers (pin_of state.pins) (pin_of next.pins) cs) (sym pins) delta.pins;
      front = subst (λ (cs : List (ℕ × ℕ)). AreChangesOf s.vehicles (front_of state.pins) (front_of next.pins) cs) (sym front) delta.frozen;
      version = version ∙ delta.version;
    }
