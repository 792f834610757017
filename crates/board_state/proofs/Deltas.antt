-- The lists of a judged change are the difference of the two states.
use Rattle.std.proofs.Common.{◌≡◌, ◌≢◌, ℕ, ◌-◌, ◌≤◌, List, length, Option, Some, None, refl, sym, ap, subst, ◌∙◌, arith}
use Rattle.std.proofs.lemmas.List.{get_or-set_same, get_or-set_other}
use Rattle.dimension_core.specs.Setting.{Setting}
use Rattle.plan_core.specs.declared.touch.Touch.{Touch}
use Rattle.plan_core.specs.Plan.{changes_of}
use Rattle.pin_core.specs.Pins.{PinState, pin_of, front_of, with_pin, with_front}
use Rattle.board_rules.specs.Delta.{AreChangesOf, IsDelta, spot_in}
use Rattle.board_rules.specs.Good.{IsGood}
use Rattle.board_rules.specs.State.{BoardState}
use Rattle.board_state.specs.Changes.{WillHold, IsSettleable, plan_after, pins_after}
use Rattle.board_state.specs.declared.change.Change.{Change}
use Rattle.board_state.specs.declared.change.Change.TheVariants.{Nothing, Replace, Pins, Command}
use Rattle.board_state.specs.declared.change.PinChange.TheVariants.{Pin, Unpin, Front}
use Rattle.board_state.specs.Deltas.{changed_places, changed_pins, changed_fronts}
use Rattle.board_state.specs.Held.{HeldState, Holds}
use Rattle.board_state.proofs.Numbers.{Unlike, nothing_differs, one_differs}
use Rattle.board_state.proofs.Releases.{PinLaws, releases_differ, touched_unlike, customers_of}
use Rattle.board_state.proofs.Spots.{SpotLaws, places_differ}

pub held_places : (law : SpotLaws) (held : HeldState) (change : Change) → IsSettleable held change
    → AreChangesOf held.plan.customers (spot_in held.plan.routes) (spot_in (plan_after held.plan change).routes) (changed_places held change)
held_places law held (Replace commit) ready =
    places_differ law held.plan.customers held.plan.routes commit.mv (changes_of commit.new.changes.items) ready.made.sound ready.made.possible
held_places law held Nothing ready = nothing_differs held.plan.customers _ _ (λ k. refl)
held_places law held (Pins (Pin c v)) ready = nothing_differs held.plan.customers _ _ (λ k. refl)
held_places law held (Pins (Unpin c)) ready = nothing_differs held.plan.customers _ _ (λ k. refl)
held_places law held (Pins (Front v m)) ready = nothing_differs held.plan.customers _ _ (λ k. refl)
held_places law held (Command rows command) ready = nothing_differs held.plan.customers _ _ (λ k. refl)

pin_written : (pins : PinState) (c j : ℕ) (pin : Option ℕ) → 1 ≤ c → 1 ≤ j → j ≢ c → pin_of (with_pin c pin pins) j ≡ pin_of pins j
pin_written pins c j pin low from apart = get_or-set_other pins.pins (c - 1) (j - 1) pin None (λ e. apart (omega (arith, e, low, from)))

front_written : (pins : PinState) (v j m : ℕ) → 1 ≤ v → 1 ≤ j → j ≢ v → front_of (with_front v m pins) j ≡ front_of pins j
front_written pins v j m low from apart = get_or-set_other pins.fronts (v - 1) (j - 1) m 0 (λ e. apart (omega (arith, e, low, from)))

pin_here : (pins : PinState) (c : ℕ) (pin : Option ℕ) → 1 ≤ c → c ≤ length pins.pins → pin_of (with_pin c pin pins) c ≡ pin
pin_here pins c pin low high = get_or-set_same pins.pins (c - 1) pin None (omega (arith, low, high))

front_here : (pins : PinState) (v m : ℕ) → 1 ≤ v → v ≤ length pins.fronts → front_of (with_front v m pins) v ≡ m
front_here pins v m low high = get_or-set_same pins.fronts (v - 1) m 0 (omega (arith, low, high))

pub held_pins : (law : SpotLaws) (pin_law : PinLaws) (held : HeldState) (change : Change) → IsSettleable held change
    → AreChangesOf (length held.pins.pins) (pin_of held.pins) (pin_of (pins_after held change)) (changed_pins change)
held_pins law pin_law held (Replace commit) ready =
    releases_differ pin_law held.pins _ commit.new.touched.items commit.new.freed.items (length held.pins.pins) ready.routes.freed ready.routes.known ready.routes.touched
    (subst (λ (ts : List Touch). Unlike (customers_of ts)) (sym ready.made.by)
    (touched_unlike law held.plan.customers held.plan.routes ready.made.sound commit.mv (changes_of commit.new.changes.items) ready.made.possible))
held_pins law pin_law held (Pins (Pin c v)) ready =
    let is = pin_here held.pins c (Some v) ready.0 ready.1 in
    one_differs (length held.pins.pins) c (Some v) _ _ ready.0 ready.1 is (λ e. let bad = sym is ∙ (e ∙ ready.2) in absurd cc)
    (λ j from apart. pin_written held.pins c j (Some v) ready.0 from apart)
held_pins law pin_law held (Pins (Unpin c)) ready =
    let is = pin_here held.pins c None ready.0 ready.1 in
    one_differs (length held.pins.pins) c None _ _ ready.0 ready.1 is (λ e. ready.2 (sym e ∙ is))
    (λ j from apart. pin_written held.pins c j None ready.0 from apart)
held_pins law pin_law held Nothing ready = nothing_differs (length held.pins.pins) _ _ (λ k. refl)
held_pins law pin_law held (Pins (Front v m)) ready = nothing_differs (length held.pins.pins) _ _ (λ k. refl)
held_pins law pin_law held (Command rows command) ready = nothing_differs (length held.pins.pins) _ _ (λ k. refl)

pub held_fronts : (held : HeldState) (change : Change) → IsSettleable held change
    → AreChangesOf (length held.pins.fronts) (front_of held.pins) (front_of (pins_after held change)) (changed_fronts change)
held_fronts held (Pins (Front v m)) ready =
    let is = front_here held.pins v m ready.0 ready.1 in
    one_differs (length held.pins.fronts) v m _ _ ready.0 ready.1 is (λ e. ready.2 (sym is ∙ e))
    (λ j from apart. front_written held.pins v j m ready.0 from apart)
held_fronts held Nothing ready = nothing_differs (length held.pins.fronts) _ _ (λ k. refl)
held_fronts held (Replace commit) ready = nothing_differs (length held.pins.fronts) _ _ (λ k. refl)
held_fronts held (Pins (Pin c v)) ready = nothing_differs (length held.pins.fronts) _ _ (λ k. refl)
held_fronts held (Pins (Unpin c)) ready = nothing_differs (length held.pins.fronts) _ _ (λ k. refl)
held_fronts held (Command rows command) ready = nothing_differs (length held.pins.fronts) _ _ (λ k. refl)

pub delta_right : (law : SpotLaws) (pin_law : PinLaws) (s : Setting) (held : HeldState) (change : Change) (state next : BoardState) → IsSettleable held change
    → Holds s held state → IsGood s state → WillHold s held change next
    → IsDelta s state next (record { places = changed_places held change; pins = changed_pins change; frozen = changed_fronts change; version = (plan_after held.plan change).version })
delta_right law pin_law s held change state next ready holds good will =
    let pinned : length held.pins.pins ≡ s.customers = ap (λ (p : PinState). length p.pins) holds.pins ∙ good.pinned in
    let frozen : length held.pins.fronts ≡ s.vehicles = ap (λ (p : PinState). length p.fronts) holds.pins ∙ good.frozen in
    record {
      places =
          subst (λ (n : ℕ). AreChangesOf n (spot_in state.routes) (spot_in next.routes) (changed_places held change)) holds.customers
          (subst (λ (rs : List (List ℕ)). AreChangesOf held.plan.customers (spot_in rs) (spot_in next.routes) (changed_places held change)) holds.routes
          (subst (λ (rs : List (List ℕ)). AreChangesOf held.plan.customers (spot_in held.plan.routes) (spot_in rs) (changed_places held change)) will.routes
          (held_places law held change ready)));
      pins =
          subst (λ (n : ℕ). AreChangesOf n (pin_of state.pins) (pin_of next.pins) (changed_pins change)) pinned
          (subst (λ (p : PinState). AreChangesOf (length held.pins.pins) (pin_of p) (pin_of next.pins) (changed_pins change)) holds.pins
          (subst (λ (p : PinState). AreChangesOf (length held.pins.pins) (pin_of held.pins) (pin_of p) (changed_pins change)) will.pins
          (held_pins law pin_law held change ready)));
      frozen =
          subst (λ (n : ℕ). AreChangesOf n (front_of state.pins) (front_of next.pins) (changed_fronts change)) frozen
          (subst (λ (p : PinState). AreChangesOf (length held.pins.fronts) (front_of p) (front_of next.pins) (changed_fronts change)) holds.pins
          (subst (λ (p : PinState). AreChangesOf (length held.pins.fronts) (front_of held.pins) (front_of p) (changed_fronts change)) will.pins
          (held_fronts held change ready)));
      version = will.stamps.version;
    }
