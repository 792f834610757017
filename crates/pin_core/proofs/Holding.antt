use Rattle.std.proofs.Common.{◌≡◌, ◌≢◌, ℕ, ◌-◌, ◌≤◌, ◌⊎◌, ◌∙◌, sym, subst, arith, inl, inr, List, length, slice_get, Option, Some, None}
use Rattle.std.proofs.lemmas.Bool.{cases_eq}
use Rattle.std.proofs.lemmas.List.{get_or-set_same, get_or-set_other}
use Rattle.plan_core.specs.declared.touch.Touch.{Touch}
use Rattle.pin_core.specs.Pins.{PinState, StandsOn, IsHeld, DoPinsHold, pin_of, with_pin}
use Rattle.pin_core.specs.Allowed.{IsTouched, AreAllTouched}

-- where all touched customers are held, and all others stay, the pins hold
pub holding_from_touched : (s : PinState) (routes others : List (List ℕ)) (touched : List Touch) → DoPinsHold s routes → AreAllTouched routes others touched
    → ((k : ℕ) (t : Touch) → slice_get touched k ≡ Some t → IsHeld s others t.customer) → DoPinsHold s others
holding_from_touched s routes others touched holding all held c low v e =
    let old = holding c low v e in split c v e (all c v old.0 old.1)
  where
    split : (c v : ℕ) → pin_of s c ≡ Some v → StandsOn others c v ⊎ IsTouched touched c → StandsOn others c v
    split c v e (inl stands) = stands
    split c v e (inr (k, (t, found, same))) = subst (λ (d : ℕ). IsHeld s others d) same (held k t found) v e

-- a pin that is written is found again, and the others stay
pin_same : (s : PinState) (c : ℕ) (pin : Option ℕ) → 1 ≤ c → c ≤ length s.pins → pin_of (with_pin c pin s) c ≡ pin
pin_same s c pin low high = get_or-set_same s.pins (c - 1) pin None (omega arith)

pin_other : (s : PinState) (c d : ℕ) (pin : Option ℕ) → 1 ≤ c → 1 ≤ d → (d ≡ c → ⊥) → pin_of (with_pin c pin s) d ≡ pin_of s d
pin_other s c d pin low here o =
    let away : d - 1 ≢ c - 1 = λ e. o (omega arith) in
    get_or-set_other s.pins (c - 1) (d - 1) pin None away

pub pinned_holds : (s : PinState) (routes : List (List ℕ)) (c v : ℕ) → DoPinsHold s routes → 1 ≤ c → c ≤ length s.pins → StandsOn routes c v
    → DoPinsHold (with_pin c (Some v) s) routes
pinned_holds s routes c v holding low high stands d here w e = split (cases_eq d c)
  where
    split : (d ≡ c) ⊎ (d ≡ c → ⊥) → StandsOn routes d w
    split (inl same) =
        let found : pin_of (with_pin c (Some v) s) d ≡ Some v = subst (λ (n : ℕ). pin_of (with_pin c (Some v) s) n ≡ Some v) (sym same) (pin_same s c (Some v) low high) in
        let both : Some v ≡ Some w = sym found ∙ e in
        let to : v ≡ w = cc in
        subst (λ (n : ℕ). StandsOn routes n w) (sym same) (subst (λ (u : ℕ). StandsOn routes c u) to stands)
    split (inr o) = holding d here w (sym (pin_other s c d (Some v) low here o) ∙ e)

pub unpinned_holds : (s : PinState) (routes : List (List ℕ)) (c : ℕ) → DoPinsHold s routes → 1 ≤ c → c ≤ length s.pins → DoPinsHold (with_pin c None s) routes
unpinned_holds s routes c holding low high d here w e = split (cases_eq d c)
  where
    split : (d ≡ c) ⊎ (d ≡ c → ⊥) → StandsOn routes d w
    split (inl same) =
        let found : pin_of (with_pin c None s) d ≡ None = subst (λ (n : ℕ). pin_of (with_pin c None s) n ≡ None) (sym same) (pin_same s c None low high) in
        let both : None ≡ Some w = sym found ∙ e in
        absurd cc
    split (inr o) = holding d here w (sym (pin_other s c d None low here o) ∙ e)
