use Rattle.std.proofs.Common.{◌≡◌, ◌≢◌, ℕ, zero, suc, ◌+◌, ◌-◌, ◌<◌, ◌≤◌, ◌⊎◌, ◌∙◌, sym, ap, subst, refl, arith, inl, inr, List, [], ◌∷◌, length, get_or, slice_get, slice_set, Option, Some, None, Bool, true, false, nat_le, ◌&&◌}
use Rattle.std.proofs.lemmas.Bool.{and_parts, and_from, leb-true, le-leb, cases_eq}
use Rattle.std.proofs.lemmas.Option.{slice_get_read}
use Rattle.std.proofs.lemmas.List.{set-get_or, same_lists, get_or-set_same, get_or-set_other, length-set, get_or_default}
use Rattle.plan_core.specs.declared.touch.Touch.{Touch}
use Rattle.plan_core.specs.Plan.{route_at}
use Rattle.plan_core.specs.Among.{is_among}
use Rattle.pin_core.specs.Pins.{PinState, StandsOn, IsHeld, DoPinsHold, pin_of, with_pin}
use Rattle.pin_core.specs.Allowed.{IsTouched, AreAllTouched}
use Rattle.pin_core.specs.Override.{pin_left, pins_left, after_commit}
use Rattle.pin_core.proofs.Standing.{contains_from_test, test_from_contains, contains_from_stands, stands_from_contains}

-- the test of a pin says whether the customer stands on its vehicle
stands_from_test : (routes : List (List ℕ)) (c v : ℕ) → (nat_le 1 v && is_among c (route_at routes v)) ≡ true → StandsOn routes c v
stands_from_test routes c v t =
    let a = and_parts (nat_le 1 v) _ t in
    let low : 1 ≤ v = leb-true 1 v a.0 in
    let inside = contains_from_test c (route_at routes v) a.1 in
    stands_from_contains routes c v low (fleet routes (v - 1) low inside.0 inside.1) inside
  where
    some_route : (routes : List (List ℕ)) (k i : ℕ) → i < length (get_or routes k []) → k < length routes
    some_route [] k i h = absurd (omega arith)
    some_route (r ∷ rs) zero i h = omega arith
    some_route (r ∷ rs) (suc k) i h = let rest = some_route rs k i h in omega arith

    fleet : (routes : List (List ℕ)) (k : ℕ) → 1 ≤ v → (i : ℕ) → i < length (get_or routes (v - 1) []) → v ≤ length routes
    fleet routes k low i h = let inside = some_route routes (v - 1) i h in omega arith

test_from_stands : (routes : List (List ℕ)) (c v : ℕ) → StandsOn routes c v → (nat_le 1 v && is_among c (route_at routes v)) ≡ true
test_from_stands routes c v s = and_from _ _ (le-leb 1 v s.1.low) (test_from_contains c (route_at routes v) (contains_from_stands routes c v s))

pub left_stands : (routes : List (List ℕ)) (c v : ℕ) → StandsOn routes c v → pin_left routes c (Some v) ≡ Some v
left_stands routes c v s = rw (test_from_stands routes c v s) refl

pub left_gone : (routes : List (List ℕ)) (c v : ℕ) → ¬ StandsOn routes c v → pin_left routes c (Some v) ≡ None
left_gone routes c v out = split (nat_le 1 v && is_among c (route_at routes v)) refl
  where
    split : (b : Bool) → (nat_le 1 v && is_among c (route_at routes v)) ≡ b → pin_left routes c (Some v) ≡ None
    split true e = absurd (out (stands_from_test routes c v e))
    split false e = rw e refl

left_some : (routes : List (List ℕ)) (c v : ℕ) (pin : Option ℕ) → pin_left routes c pin ≡ Some v → StandsOn routes c v
left_some routes c v None e = absurd cc
left_some routes c v (Some w) e = split (nat_le 1 w && is_among c (route_at routes w)) refl
  where
    split : (b : Bool) → (nat_le 1 w && is_among c (route_at routes w)) ≡ b → StandsOn routes c v
    split true t =
        let is : Some w ≡ Some v = sym (left_stands routes c w (stands_from_test routes c w t)) ∙ e in
        let same : w ≡ v = cc in
        subst (λ (u : ℕ). StandsOn routes c u) same (stands_from_test routes c w t)
    split false t =
        let is : None ≡ Some v = sym (left_gone routes c w (λ s. let y : true ≡ false = sym (test_from_stands routes c w s) ∙ t in cc)) ∙ e in
        absurd cc

-- a held customer keeps its pin
pub left_held : (s : PinState) (routes : List (List ℕ)) (c : ℕ) → IsHeld s routes c → pin_left routes c (pin_of s c) ≡ pin_of s c
left_held s routes c held = split (pin_of s c) refl
  where
    split : (pin : Option ℕ) → pin_of s c ≡ pin → pin_left routes c pin ≡ pin
    split None e = refl
    split (Some v) e = left_stands routes c v (held v e)

left_at : (routes : List (List ℕ)) (c k : ℕ) (ps : List (Option ℕ)) → get_or (pins_left routes c ps) k None ≡ pin_left routes (c + k) (get_or ps k None)
left_at routes c k [] = refl
left_at routes c zero (p ∷ ps) = let none : c + zero ≡ c = omega arith in rw none refl
left_at routes c (suc k) (p ∷ ps) =
    let next : c + suc k ≡ c + 1 + k = omega arith in
    rw next (left_at routes (c + 1) k ps)

pub length-pins_left : (routes : List (List ℕ)) (c : ℕ) (ps : List (Option ℕ)) → length (pins_left routes c ps) ≡ length ps
length-pins_left routes c [] = refl
length-pins_left routes c (p ∷ ps) = ap (λ (n : ℕ). suc n) (length-pins_left routes (c + 1) ps)

-- the pin of one customer after a commit
pub left_of : (s : PinState) (routes : List (List ℕ)) (c : ℕ) → 1 ≤ c → pin_of (after_commit routes s) c ≡ pin_left routes c (pin_of s c)
left_of s routes c low =
    let back : 1 + (c - 1) ≡ c = omega arith in
    subst (λ (d : ℕ). pin_of (after_commit routes s) c ≡ pin_left routes d (pin_of s c)) back (left_at routes 1 (c - 1) s.pins)

pub commit_kept : (s : PinState) (routes : List (List ℕ)) (c v : ℕ) → 1 ≤ c → StandsOn routes c v → pin_of s c ≡ Some v → pin_of (after_commit routes s) c ≡ Some v
commit_kept s routes c v low stands e = left_of s routes c low ∙ ap (pin_left routes c) e ∙ left_stands routes c v stands

pub commit_none : (s : PinState) (routes : List (List ℕ)) (c : ℕ) → 1 ≤ c → pin_of s c ≡ None → pin_of (after_commit routes s) c ≡ None
commit_none s routes c low e = left_of s routes c low ∙ ap (pin_left routes c) e

pub commit_gone : (s : PinState) (routes : List (List ℕ)) (c : ℕ) → 1 ≤ c → ¬ IsHeld s routes c → pin_of (after_commit routes s) c ≡ None
commit_gone s routes c low out = left_of s routes c low ∙ split (pin_of s c) refl
  where
    split : (pin : Option ℕ) → pin_of s c ≡ pin → pin_left routes c pin ≡ None
    split None e = refl
    split (Some v) e = left_gone routes c v (λ stands. out (λ w f.
        let both : Some v ≡ Some w = sym e ∙ f in
        let same : v ≡ w = cc in
        subst (λ (u : ℕ). StandsOn routes c u) same stands))

pub commit_holding : (s : PinState) (routes : List (List ℕ)) → DoPinsHold (after_commit routes s) routes
commit_holding s routes c low v e = left_some routes c v (pin_of s c) (sym (left_of s routes c low) ∙ e)

-- pins that are each what is left are the pins after the commit
pub commit_is : (s t : PinState) (routes : List (List ℕ)) → t.fronts ≡ s.fronts → length t.pins ≡ length s.pins
    → ((c : ℕ) → 1 ≤ c → pin_of t c ≡ pin_left routes c (pin_of s c)) → t ≡ after_commit routes s
commit_is s t routes fronts long each =
    let counted = length-pins_left routes 1 s.pins in
    let pins : t.pins ≡ pins_left routes 1 s.pins = same_lists t.pins (pins_left routes 1 s.pins) (omega arith) (λ k d h.
    let back : k + 1 - 1 ≡ k = omega arith in
    let one : pin_of t (k + 1) ≡ pin_of (after_commit routes s) (k + 1) = each (k + 1) (omega arith) ∙ sym (left_of s routes (k + 1) (omega arith)) in
    let two : get_or t.pins k None ≡ get_or (pins_left routes 1 s.pins) k None = subst (λ (n : ℕ). get_or t.pins n None ≡ get_or (pins_left routes 1 s.pins) n None) back one in
    get_or_default t.pins k d None h ∙ two ∙ get_or_default (pins_left routes 1 s.pins) k None d (omega arith)) in
    joined t.pins (pins_left routes 1 s.pins) t.fronts s.fronts pins fronts
  where
    joined : (ps qs : List (Option ℕ)) (fs gs : List ℕ) → ps ≡ qs → fs ≡ gs
        → (let x : PinState = record { pins = ps; fronts = fs } in x) ≡ (let y : PinState = record { pins = qs; fronts = gs } in y)
    joined ps qs fs gs e f = cc

pub commit_same : (s : PinState) (routes : List (List ℕ)) → DoPinsHold s routes → after_commit routes s ≡ s
commit_same s routes holding = sym (commit_is s s routes refl refl (λ c low. sym (left_held s routes c (holding c low))))

pub held_or_touched : (s : PinState) (routes others : List (List ℕ)) (touched : List Touch) → DoPinsHold s routes → AreAllTouched routes others touched
    → (c : ℕ) → 1 ≤ c → IsHeld s others c ⊎ IsTouched touched c
held_or_touched s routes others touched holding all c low = split (pin_of s c) refl
  where
    stays : (v : ℕ) → pin_of s c ≡ Some v → StandsOn others c v ⊎ IsTouched touched c → IsHeld s others c ⊎ IsTouched touched c
    stays v e (inl stands) = inl (λ w f.
        let both : Some v ≡ Some w = sym e ∙ f in
        let same : v ≡ w = cc in
        subst (λ (u : ℕ). StandsOn others c u) same stands)
    stays v e (inr t) = inr t

    split : (pin : Option ℕ) → pin_of s c ≡ pin → IsHeld s others c ⊎ IsTouched touched c
    split None e = inl (λ w f. let both : None ≡ Some w = sym e ∙ f in absurd cc)
    split (Some v) e = let old = holding c low v e in stays v e (all c v old.0 old.1)

-- While touched customers lose their pins one after the other, each pin either is as it was, and its customer is still to come, or it is
-- what is left of it.
pub record AreLeft (s t : PinState) (routes : List (List ℕ)) (touched : List Touch) (i : ℕ) : Type 0 where
  pub fronts : t.fronts ≡ s.fronts
  pub counted : length t.pins ≡ length s.pins
  pub each : (c : ℕ) → 1 ≤ c → (pin_of t c ≡ pin_left routes c (pin_of s c)) ⊎ ((pin_of t c ≡ pin_of s c) × ((j : ℕ) (u : Touch) → j < i → slice_get touched j ≡ Some u → u.customer ≢ c))

pub left_begins : (s : PinState) (routes : List (List ℕ)) (touched : List Touch) → AreLeft s s routes touched 0
left_begins s routes touched = record { fronts = refl; counted = refl; each = λ c low. inr (refl, λ j u h. absurd (omega arith)) }

-- what is left of a pin stays when it is computed again
left_again : (routes : List (List ℕ)) (c : ℕ) (pin : Option ℕ) → pin_left routes c (pin_left routes c pin) ≡ pin_left routes c pin
left_again routes c None = refl
left_again routes c (Some v) = split (nat_le 1 v && is_among c (route_at routes v)) refl
  where
    split : (b : Bool) → (nat_le 1 v && is_among c (route_at routes v)) ≡ b → pin_left routes c (pin_left routes c (Some v)) ≡ pin_left routes c (Some v)
    split true e = let is = left_stands routes c v (stands_from_test routes c v e) in ap (pin_left routes c) is
    split false e = rw e refl

pub left_more : (s t w : PinState) (routes : List (List ℕ)) (touched : List Touch) (i : ℕ) (x : Touch) → slice_get touched i ≡ Some x → 1 ≤ x.customer
    → w.fronts ≡ t.fronts → length w.pins ≡ length t.pins → pin_of w x.customer ≡ pin_left routes x.customer (pin_of t x.customer)
    → ((c : ℕ) → 1 ≤ c → c ≢ x.customer → pin_of w c ≡ pin_of t c) → AreLeft s t routes touched i → AreLeft s w routes touched (i + 1)
left_more s t w routes touched i x found here fronts counted own others left = record {
  fronts = fronts ∙ left.fronts;
  counted = counted ∙ left.counted;
  each = λ c low. split c low (cases_eq c x.customer) (left.each c low);
}
  where
    mine : (c : ℕ) → c ≡ x.customer → (pin_of t c ≡ pin_left routes c (pin_of s c)) ⊎ ((pin_of t c ≡ pin_of s c) × ((j : ℕ) (u : Touch) → j < i → slice_get touched j ≡ Some u → u.customer ≢ c))
        → pin_of w c ≡ pin_left routes c (pin_of s c)
    mine c e (inl is) =
        let new : pin_of w c ≡ pin_left routes c (pin_of t c) = subst (λ (d : ℕ). pin_of w d ≡ pin_left routes d (pin_of t d)) (sym e) own in
        new ∙ ap (pin_left routes c) is ∙ left_again routes c (pin_of s c)
    mine c e (inr (is, rest)) =
        let new : pin_of w c ≡ pin_left routes c (pin_of t c) = subst (λ (d : ℕ). pin_of w d ≡ pin_left routes d (pin_of t d)) (sym e) own in
        new ∙ ap (pin_left routes c) is

    before : (c : ℕ) → c ≢ x.customer → ((j : ℕ) (u : Touch) → j < i → slice_get touched j ≡ Some u → u.customer ≢ c)
        → (j : ℕ) (u : Touch) → j < i + 1 → slice_get touched j ≡ Some u → u.customer ≢ c
    before c o rest j u h e = last (cases_eq j i)
      where
        last : (j ≡ i) ⊎ (j ≡ i → ⊥) → u.customer ≢ c
        last (inl same) f =
            let at : slice_get touched i ≡ Some u = subst (λ (n : ℕ). slice_get touched n ≡ Some u) same e in
            let both : Some x ≡ Some u = sym found ∙ at in
            let one : x ≡ u = cc in
            o (sym (ap (λ (y : Touch). y.customer) one ∙ f))
        last (inr out) f = rest j u (omega arith) e f

    split : (c : ℕ) → 1 ≤ c → (c ≡ x.customer) ⊎ (c ≡ x.customer → ⊥)
        → (pin_of t c ≡ pin_left routes c (pin_of s c)) ⊎ ((pin_of t c ≡ pin_of s c) × ((j : ℕ) (u : Touch) → j < i → slice_get touched j ≡ Some u → u.customer ≢ c))
        → (pin_of w c ≡ pin_left routes c (pin_of s c)) ⊎ ((pin_of w c ≡ pin_of s c) × ((j : ℕ) (u : Touch) → j < i + 1 → slice_get touched j ≡ Some u → u.customer ≢ c))
    split c low (inl e) was = inl (mine c e was)
    split c low (inr o) (inl is) = inl (others c low o ∙ is)
    split c low (inr o) (inr (is, rest)) = inr (others c low o ∙ is, before c o rest)

-- the touched customer's pin is what is left of it
pub left_one : (s t : PinState) (routes : List (List ℕ)) (touched : List Touch) (i : ℕ) (x : Touch) → i < length touched → x ≡ get_or touched i x → 1 ≤ x.customer
    → x.customer ≤ length t.pins → AreLeft s t routes touched i
    → AreLeft s (with_pin x.customer (pin_left routes x.customer (pin_of t x.customer)) t) routes touched (i + 1)
left_one s t routes touched i x inside is low high left =
    let pin = pin_left routes x.customer (pin_of t x.customer) in
    left_more s t (with_pin x.customer pin t) routes touched i x (slice_get_read touched (length touched) i x refl inside is) low refl (length-set t.pins (x.customer - 1) pin)
    (get_or-set_same t.pins (x.customer - 1) pin None (omega arith))
    (λ c here o. let away : c - 1 ≢ x.customer - 1 = λ e. o (omega arith) in get_or-set_other t.pins (x.customer - 1) (c - 1) pin None away) left

-- writing a pin again over itself changes nothing
pub pin_again : (s : PinState) (c : ℕ) (pin : Option ℕ) → pin ≡ pin_of s c → s ≡ with_pin c pin s
pin_again s c pin e =
    let same : slice_set s.pins (c - 1) pin ≡ s.pins = ap (slice_set s.pins (c - 1)) e ∙ set-get_or s.pins (c - 1) None in
    ap (λ (ps : List (Option ℕ)). let t : PinState = record { pins = ps; fronts = s.fronts } in t) (sym same)

-- at the end all is as after the commit
pub left_ends : (s t : PinState) (routes : List (List ℕ)) (touched : List Touch) (i : ℕ) → length touched ≤ i
    → ((c : ℕ) → 1 ≤ c → IsHeld s routes c ⊎ IsTouched touched c) → AreLeft s t routes touched i → t ≡ after_commit routes s
left_ends s t routes touched i end all left = commit_is s t routes left.fronts left.counted (λ c low. split c (left.each c low) (all c low))
  where
    split : (c : ℕ) → (pin_of t c ≡ pin_left routes c (pin_of s c)) ⊎ ((pin_of t c ≡ pin_of s c) × ((j : ℕ) (u : Touch) → j < i → slice_get touched j ≡ Some u → u.customer ≢ c))
        → IsHeld s routes c ⊎ IsTouched touched c → pin_of t c ≡ pin_left routes c (pin_of s c)
    split c (inl is) either = is
    split c (inr (is, rest)) (inl held) = is ∙ sym (left_held s routes c held)
    split c (inr (is, rest)) (inr (k, (u, found, same))) = let inside = within touched k u found in absurd (rest k u (omega arith) found same)
      where
        within : (xs : List Touch) (k : ℕ) (u : Touch) → slice_get xs k ≡ Some u → k < length xs
        within [] k u e = absurd cc
        within (x ∷ xs) zero u e = omega arith
        within (x ∷ xs) (suc k) u e = let rest = within xs k u e in omega arith
