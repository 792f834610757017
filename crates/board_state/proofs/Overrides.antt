-- Pins that a session may override: judging the touched customers is judging all customers.
use Rattle.std.proofs.Common.{◌≡◌, ℕ, zero, suc, ◌+◌, ◌<◌, ◌≤◌, ◌⊎◌, inl, inr, Bool, true, false, List, [], ◌∷◌, ◌++◌, length, drop, get_or, Option, Some, None, refl, sym, ap, subst, ◌∙◌, arith, ⊎_elim, All, length-append}
use Rattle.std.specs.Prelude.{slice_get, is_some, is_none, ◌&&◌, if◌then◌else◌, count_by}
use Rattle.std.proofs.lemmas.Bool.{both_ways, cases_order}
use Rattle.std.proofs.lemmas.List.Sums.{sum_by-cons, sum_by-drop_more}
use Rattle.std.proofs.lemmas.Option.{get_or_from_slice_get, slice_get_within}
use Rattle.plan_core.specs.declared.touch.Touch.{Touch}
use Rattle.plan_core.specs.Drafts.{DraftState, drafts_of}
use Rattle.pin_core.specs.Pins.{PinState, IsHeld, StandsOn, DoPinsHold, pin_of}
use Rattle.pin_core.specs.Allowed.{IsTouched, AreAllTouched}
use Rattle.pin_core.specs.Override.{IsPassed, DoPinsPass, IsFirstForbidden, after_commit}
use Rattle.board_rules.specs.Override.{IsAllowed, DoPinsAllow, IsFirstHeldBack, AreAnswers}
use Rattle.board_state.specs.Deltas.{AreFreed}
use Rattle.board_state.specs.Held.{HeldState}
use Rattle.board_state.specs.Verdicts.{ArePlaceable}
use Rattle.board_state.specs.Work.{is_leaving, leaving}

-- new routes may be placed in what is the same
pub placed_as : (a b : HeldState) (drafts : List DraftState) (touched : List Touch) → a ≡ b → ArePlaceable b (drafts_of b.plan.routes drafts) touched
    → ArePlaceable a (drafts_of a.plan.routes drafts) touched
placed_as a b drafts touched e h = subst (λ (x : HeldState). ArePlaceable x (drafts_of x.plan.routes drafts) touched) (sym e) h

-- pins that hold forbid nothing
pub held_allow : (pins : PinState) (free : ℕ → Bool) (others : List (List ℕ)) → DoPinsHold pins others → DoPinsAllow pins free others
held_allow pins free others holds c low not_free = holds c low

module _ (pins : PinState) (free : ℕ → Bool) (others : List (List ℕ)) (touched : List Touch) (answers : List Bool)
    (are : AreAnswers pins free others touched answers) where
  -- an answer is the session's, unless the customer stays
  same_answer : (k : ℕ) (t : Touch) (b : Bool) → slice_get touched k ≡ Some t → slice_get answers k ≡ Some b → IsHeld pins others t.customer ⊎ (free t.customer ≡ b)
  same_answer k t b at answered = ⊎_elim (λ (h : IsHeld pins others t.customer). inl h) (λ (e : slice_get answers k ≡ Some (free t.customer)). inr (let both = sym e ∙ answered in cc)) (are.each k t at)

  passed_allowed : (k : ℕ) (t : Touch) → slice_get touched k ≡ Some t → IsPassed pins others touched answers k → IsAllowed pins free others t.customer
  passed_allowed k t at passed bound = ⊎_elim
      (λ (h : IsHeld pins others t.customer). h)
      (λ (yes : slice_get answers k ≡ Some true). ⊎_elim (λ (h : IsHeld pins others t.customer). h) (λ (e : free t.customer ≡ true). absurd (both_ways (free t.customer) bound e)) (same_answer k t true at yes))
      (passed t at)

  -- where the pins pass, they allow the new routes
  pub passed_allow : (routes : List (List ℕ)) → DoPinsHold pins routes → AreAllTouched routes others touched → DoPinsPass pins others touched answers → DoPinsAllow pins free others
  passed_allow routes holds all passes c low bound v pinned =
      let stands = holds c low v pinned in
      ⊎_elim (λ (h : StandsOn others c v). h)
      (λ (q : IsTouched touched c).
      let t = q.1.0 in
      let allowed : IsAllowed pins free others c = subst (λ (x : ℕ). IsAllowed pins free others x) q.1.2 (passed_allowed q.0 t q.1.1 (passes q.0)) in
      allowed bound v pinned)
      (all c v stands.0 stands.1)

  -- the first that is forbidden is the first that is held back
  pub forbidden_held : (t : Touch) → IsFirstForbidden pins others touched answers t → IsFirstHeldBack pins free others touched t
  forbidden_held t first = (
    first.k,
    record {
      found = first.found;
      fails = λ allowed. ⊎_elim (λ (h : IsHeld pins others t.customer). first.loose h)
          (λ (e : free t.customer ≡ false). first.loose (allowed e)) (same_answer first.k t false first.found first.bound);
      before = λ j y early at. passed_allowed j y at (first.before j early);
    },
  )

-- a customer that does not stay is leaving
pub leaves_test : (pins : PinState) (others : List (List ℕ)) (c : ℕ) → ¬ IsHeld pins others c → pin_of (after_commit others pins) c ≡ None → is_leaving pins others c ≡ true
leaves_test pins others c out gone = split (pin_of pins c) refl
  where
    split : (o : Option ℕ) → pin_of pins c ≡ o → is_leaving pins others c ≡ true
    split None e = absurd (out (λ v h. absurd cc))
    split (Some v) e = rw (e, gone) refl

-- ---- answers one by one

get_front : {X : Type 0} (xs ys : List X) (k : ℕ) (x : X) → slice_get xs k ≡ Some x → slice_get (xs ++ ys) k ≡ Some x
get_front [] ys k x h = absurd cc
get_front (y ∷ xs) ys zero x h = h
get_front (y ∷ xs) ys (suc k) x h = get_front xs ys k x h

get_end : {X : Type 0} (xs : List X) (y : X) → slice_get (xs ++ y ∷ []) (length xs) ≡ Some y
get_end [] y = refl
get_end (x ∷ xs) y = get_end xs y

pub answers_more : (Held : ℕ → Type 0) (may : ℕ → Bool) (touched : List Touch) (free : List Bool) (i : ℕ) (t : Touch) (b : Bool) → length free ≡ i
    → slice_get touched i ≡ Some t → Held t.customer ⊎ (b ≡ may t.customer)
    → ((k : ℕ) (u : Touch) → k < i → slice_get touched k ≡ Some u → Held u.customer ⊎ (slice_get free k ≡ Some (may u.customer)))
    → (k : ℕ) (u : Touch) → k < i + 1 → slice_get touched k ≡ Some u → Held u.customer ⊎ (slice_get (free ++ b ∷ []) k ≡ Some (may u.customer))
answers_more Held may touched free i t b sized at new before k u low there = elim (cases_order k i) [
  | inl same ↦
      let one : t ≡ u = let e : slice_get touched i ≡ Some u = subst (λ (n : ℕ). slice_get touched n ≡ Some u) same there in cc in
      let last : slice_get (free ++ b ∷ []) k ≡ Some b = subst (λ (n : ℕ). slice_get (free ++ b ∷ []) n ≡ Some b) (sized ∙ sym same) (get_end free b) in
      subst (λ (x : Touch). Held x.customer ⊎ (slice_get (free ++ b ∷ []) k ≡ Some (may x.customer))) one
      (⊎_elim (λ (h : Held t.customer). inl h) (λ (e : b ≡ may t.customer). inr (last ∙ ap Some e)) new)
  | inr q ↦ elim q [
    | inl early ↦ ⊎_elim (λ (h : Held u.customer). inl h) (λ (e : slice_get free k ≡ Some (may u.customer)). inr (get_front free (b ∷ []) k (may u.customer) e)) (before k u early there)
    | inr late ↦ absurd (omega (arith, low, late))
  ]
]

get_back : {X : Type 0} (xs ys : List X) (k : ℕ) (x : X) → k < length xs → slice_get (xs ++ ys) k ≡ Some x → slice_get xs k ≡ Some x
get_back [] ys k x low h = absurd (omega (arith, low))
get_back (y ∷ xs) ys zero x low h = h
get_back (y ∷ xs) ys (suc k) x low h = get_back xs ys k x (omega (arith, low)) h

-- one more mark
pub marks_more : (Held : ℕ → Type 0) (touched : List Touch) (free : List Bool) (i : ℕ) (t : Touch) (b : Bool) → length free ≡ i
    → slice_get touched i ≡ Some t → (b ≡ true → ¬ Held t.customer)
    → ((k : ℕ) (u : Touch) → slice_get touched k ≡ Some u → slice_get free k ≡ Some true → ¬ Held u.customer)
    → (k : ℕ) (u : Touch) → slice_get touched k ≡ Some u → slice_get (free ++ b ∷ []) k ≡ Some true → ¬ Held u.customer
marks_more Held touched free i t b sized at new before k u there mark = elim (cases_order k i) [
  | inl same ↦
      let one : t ≡ u = let e : slice_get touched i ≡ Some u = subst (λ (n : ℕ). slice_get touched n ≡ Some u) same there in cc in
      let last : slice_get (free ++ b ∷ []) k ≡ Some b = subst (λ (n : ℕ). slice_get (free ++ b ∷ []) n ≡ Some b) (sized ∙ sym same) (get_end free b) in
      let yes : b ≡ true = let e = sym last ∙ mark in cc in
      subst (λ (x : Touch). Held x.customer → ⊥) one (new yes)
  | inr q ↦ elim q [
    | inl early ↦ before k u there (get_back free (b ∷ []) k true (omega (arith, early, sized)) mark)
    | inr late ↦ let within = slice_get_within (free ++ b ∷ []) k true mark in absurd (omega (arith, late, sized, within, length-append free (b ∷ [])))
  ]
]

-- where the pins hold nobody is marked
pub none_freed : (pins : PinState) (others : List (List ℕ)) (touched : List Touch) (n : ℕ) → All (λ t. (1 ≤ t.customer) × (t.customer ≤ n)) touched → DoPinsHold pins others → AreFreed pins others touched []
none_freed pins others touched n known holds = record {
  short = omega arith;
  leave = λ k t at mark. absurd cc;
  stay = λ k t at.
      inl (holds t.customer (subst (λ (u : Touch). 1 ≤ u.customer) (get_or_from_slice_get touched k t t at) (known k t (slice_get_within touched k t at)).0));
}

-- how many customers are still to leave
pub leaving_left : (pins : PinState) (others : List (List ℕ)) (touched : List Touch) (i : ℕ) (d : Touch) → i < length touched
    → leaving pins others (drop i touched) ≡ (if is_leaving pins others (get_or touched i d).customer then 1 else 0) + leaving pins others (drop (i + 1) touched)
leaving_left pins others touched i d h = sum_by-drop_more _ touched i d h

-- a customer that stays is not leaving
pub stays_test : (pins : PinState) (others : List (List ℕ)) (c : ℕ) → IsHeld pins others c
    → ((v : ℕ) → StandsOn others c v → pin_of pins c ≡ Some v → pin_of (after_commit others pins) c ≡ Some v) → is_leaving pins others c ≡ false
stays_test pins others c held kept = split (pin_of pins c) refl
  where
    split : (o : Option ℕ) → pin_of pins c ≡ o → is_leaving pins others c ≡ false
    split None e = rw e refl
    split (Some v) e = rw (e, kept v (held v e) e) refl

-- where the pins hold in other routes, nobody is leaving
no_pin : (o : Option ℕ) → (is_some o && is_none o) ≡ false
no_pin None = refl
no_pin (Some v) = refl

count_none : (pins : PinState) (touched : List Touch) → count_by (λ t. is_some (pin_of pins t.customer) && is_none (pin_of pins t.customer)) touched ≡ 0
count_none pins [] = refl
count_none pins (t ∷ ts) =
    let more = sum_by-cons (λ (u : Touch). if is_some (pin_of pins u.customer) && is_none (pin_of pins u.customer) then 1 else 0) t ts in
    let none : ◌≡◌ {A = ℕ} (if is_some (pin_of pins t.customer) && is_none (pin_of pins t.customer) then 1 else 0) 0 = ap (λ (b : Bool). if b then 1 else 0) (no_pin (pin_of pins t.customer)) in
    let rest = count_none pins ts in
    omega (arith, more, none, rest)

pub none_leaving : (pins : PinState) (others : List (List ℕ)) (touched : List Touch) → after_commit others pins ≡ pins → leaving pins others touched ≡ 0
none_leaving pins others touched e =
    ap (λ (p : PinState). count_by (λ t. is_some (pin_of pins t.customer) && is_none (pin_of p t.customer)) touched) e ∙ count_none pins touched
