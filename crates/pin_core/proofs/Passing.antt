-- How touched customers are passed, one after the other.
use Rattle.std.proofs.Common.{◌≡◌, ℕ, ◌<◌, ◌≤◌, ◌∙◌, inl, inr, sym, ap, subst, arith, List, length, get_or, refl, Option, Some, None, Bool, true, false, not, IsTrue, ◌↔◌}
use Rattle.std.specs.Prelude.{MatchBool}
use Rattle.std.proofs.lemmas.Bool.{false≢true}
use Rattle.std.proofs.lemmas.Option.{slice_get_within, slice_get-get_or}
use Rattle.plan_core.specs.declared.touch.Touch.{Touch}
use Rattle.pin_core.specs.Pins.{PinState, StandsOn, IsHeld, pin_of}
use Rattle.pin_core.specs.Override.{IsPassed, DoPinsPass, IsFirstForbidden}
use Rattle.pin_core.proofs.Standing.{AllBefore}

pub none_before : {X : Type 0} (P : X → Type 0) (xs : List X) → AllBefore P xs 0
none_before P xs j y h e = absurd (omega arith)

pub in_both : (k n m : ℕ) → n ≡ m → k < m → k < n
in_both k n m e h = omega arith

pub none_passed : (s : PinState) (others : List (List ℕ)) (touched : List Touch) (free : List Bool) (j : ℕ) → j < 0 → IsPassed s others touched free j
none_passed s others touched free j h = absurd (omega arith)

-- a customer who may leave its vehicle, and one who stands on it
pub passed_free : (s : PinState) (others : List (List ℕ)) (touched : List Touch) (free : List Bool) (k : ℕ) (b : Bool) → k < length free → get_or free k b ≡ true → IsPassed s others touched free k
passed_free s others touched free k b h free_is = λ t e. inr (slice_get-get_or free k b h ∙ ap Some free_is)

pub passed_held : (s : PinState) (others : List (List ℕ)) (touched : List Touch) (free : List Bool) (k : ℕ) (t : Touch) → k < length touched → IsHeld s others (get_or touched k t).customer
    → IsPassed s others touched free k
passed_held s others touched free k t h held = λ u e.
    let both : Some (get_or touched k t) ≡ Some u = sym (slice_get-get_or touched k t h) ∙ e in
    let one : get_or touched k t ≡ u = cc in
    inl (subst (λ (x : Touch). IsHeld s others x.customer) one held)

-- the first who may not
pub forbidden_at : (s : PinState) (others : List (List ℕ)) (touched : List Touch) (free : List Bool) (k : ℕ) (t : Touch) (b : Bool) → k < length touched → k < length free → get_or free k b ≡ false
    → (IsHeld s others (get_or touched k t).customer → ⊥) → ((j : ℕ) → j < k → IsPassed s others touched free j) → IsFirstForbidden s others touched free (get_or touched k t)
forbidden_at s others touched free k t b h f bound loose before = record {
  k = k;
  found = slice_get-get_or touched k t h;
  loose = loose;
  bound = slice_get-get_or free k b f ∙ ap Some bound;
  before = before;
}

pub all_passed : (s : PinState) (others : List (List ℕ)) (touched : List Touch) (free : List Bool) (k : ℕ) → length touched ≤ k → ((j : ℕ) → j < k → IsPassed s others touched free j)
    → DoPinsPass s others touched free
all_passed s others touched free k end before j t e = let inside : j < length touched = slice_get_within touched j t e in before j (omega arith) t e

-- a customer who is not pinned, and one who is
pub held_none : (s : PinState) (others : List (List ℕ)) (c : ℕ) (o : Option ℕ) → o ≡ pin_of s c → o ≡ None → IsHeld s others c
held_none s others c o e none v pin = absurd cc

pub held_by : (s : PinState) (others : List (List ℕ)) (c v : ℕ) (stays : Bool) → pin_of s c ≡ Some v → IsTrue stays ↔ StandsOn others c v → MatchBool (not stays) (IsHeld s others c → ⊥) (IsHeld s others c)
held_by s others c v true e stands = λ w f.
    let both : Some v ≡ Some w = sym e ∙ f in
    let one : v ≡ w = cc in
    subst (λ (u : ℕ). StandsOn others c u) one (stands.0 refl)
held_by s others c v false e stands = λ held. false≢true (stands.1 (held v e))
