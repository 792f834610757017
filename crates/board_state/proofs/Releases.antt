-- Whose pin a commit releases.
use Rattle.std.proofs.Common.{◌≡◌, ◌≢◌, ℕ, zero, suc, ◌+◌, ◌-◌, ◌≤◌, ◌⊎◌, inl, inr, Bool, true, false, cond, List, [], ◌∷◌, ◌++◌, length, map, drop, Contains, All, Option, Some, None, refl, sym, ap, subst, ◌∙◌, ap₂, arith, add-one, drop-cons, append_assoc}
use Rattle.std.specs.Prelude.{slice_get}
use Rattle.std.proofs.lemmas.Option.{slice_get-get_or, get_or_from_slice_get, slice_get_within, cond_some}
use Rattle.plan_core.specs.declared.touch.Touch.{Touch}
use Rattle.plan_core.specs.Plan.{Changes, StandsAt, IsPlan, route_at}
use Rattle.pin_core.specs.Pins.{PinState, StandsOn, IsHeld, pin_of}
use Rattle.pin_core.specs.Allowed.{IsTouched}
use Rattle.pin_core.specs.Override.{after_commit}
use Rattle.move_core.specs.declared.moves.Move.{Move}
use Rattle.move_core.specs.declared.moves.Move.TheVariants.{Insert, Remove, Shift, Swap, Reverse, Cross}
use Rattle.move_core.specs.Moves.{effect, is_possible, changes_by, stretch, customer_at}
use Rattle.move_core.specs.Touched.{touches, touched_by}
use Rattle.board_rules.specs.Delta.{AreChangesOf}
use Rattle.board_state.specs.Deltas.{AreFreed, released}
use Rattle.board_state.proofs.Numbers.{first, later, first_or_later, none_in, Unlike, distinct, unlike_joined, once_unlike, once_behind, once_taken, behind, place_in, entry_of}
use Rattle.board_state.proofs.Spots.{SpotLaws, one_place}

-- ---- touched customers are touched once

abbrev pub customers_of : List Touch → List ℕ
customers_of touched = map (λ t. t.customer) touched

named_touches : (v p : ℕ) (cs : List ℕ) → customers_of (touches v p cs) ≡ cs
named_touches v p [] = refl
named_touches v p (c ∷ cs) = ap (λ l. c ∷ l) (named_touches v (p + 1) cs)

customers_joined : (ts us : List Touch) → customers_of (ts ++ us) ≡ customers_of ts ++ customers_of us
customers_joined [] us = refl
customers_joined (t ∷ ts) us = ap (λ l. t.customer ∷ l) (customers_joined ts us)

alone : (c : ℕ) → Unlike (c ∷ [])
alone c = ((λ d at. absurd (none_in d at)), tt)

module _ (law : SpotLaws) (n : ℕ) (routes : List (List ℕ)) (plan : IsPlan n routes) where
  stretch_unlike : (v p m : ℕ) → 1 ≤ v → v ≤ length routes → Unlike (customers_of (touches v p (stretch (route_at routes v) p m)))
  stretch_unlike v p m low high =
      subst (λ (l : List ℕ). Unlike l) (sym (named_touches v p (stretch (route_at routes v) p m)))
      (once_unlike _ (once_taken m _ (once_behind (p - 1) _ (one_place law n routes v plan low high))))

  tail_unlike : (v k : ℕ) → 1 ≤ v → v ≤ length routes → Unlike (drop k (route_at routes v))
  tail_unlike v k low high = once_unlike _ (once_behind k _ (one_place law n routes v plan low high))

  stands_behind : (v k c : ℕ) → 1 ≤ v → v ≤ length routes → Contains (drop k (route_at routes v)) c → StandsOn routes c v
  stands_behind v k c low high at =
      let r = place_in (drop k (route_at routes v)) c at in
      (k + r.0 + 1, (law.stands.there routes c v (k + r.0) low high).0 (sym (behind k r.0 (k + r.0) (route_at routes v) refl) ∙ r.1))

  pub touched_unlike : (mv : Move) (changes : Changes) → effect n routes mv ≡ Some changes → Unlike (customers_of (touched_by routes mv))
  touched_unlike (Insert c v p) changes made = alone c
  touched_unlike (Remove v p) changes made = alone (customer_at (route_at routes v) p)
  touched_unlike (Shift v p m to at) changes made =
      let can = (law.possible.shift n routes v p m to at).0 (cond_some (is_possible n routes (Shift v p m to at)) (changes_by routes (Shift v p m to at)) changes made).0 in
      stretch_unlike v p m can.from.vehicle.low can.from.vehicle.high
  touched_unlike (Swap v p w q) changes made =
      let can = (law.possible.swap n routes v p w q).0 (cond_some (is_possible n routes (Swap v p w q)) (changes_by routes (Swap v p w q)) changes made).0 in
      let p_low = can.place.low in
      let p_high = can.place.high in
      let q_low = can.at.low in
      let q_high = can.at.high in
      let here : StandsAt routes (customer_at (route_at routes v) p) v p = record { low = can.vehicle.low; high = can.vehicle.high; place = p_low; found = slice_get-get_or (route_at routes v) (p - 1) 0 (omega (arith, p_low, p_high)) } in
      let there : StandsAt routes (customer_at (route_at routes w) q) w q = record { low = can.other.low; high = can.other.high; place = q_low; found = slice_get-get_or (route_at routes w) (q - 1) 0 (omega (arith, q_low, q_high)) } in (
        (λ d at same.
            elim (first_or_later (customer_at (route_at routes w) q) d [] at) [
              | inl is ↦
                  let both = plan.alone (customer_at (route_at routes v) p) v p w q here (subst (λ (c : ℕ). StandsAt routes c w q) (is ∙ sym same) there) in
                  can.apart both.0 both.1
              | inr none ↦ none_in d none
            ]),
        alone (customer_at (route_at routes w) q),
      )
  touched_unlike (Reverse v i j) changes made =
      let can = (law.possible.reverse n routes v i j).0 (cond_some (is_possible n routes (Reverse v i j)) (changes_by routes (Reverse v i j)) changes made).0 in
      stretch_unlike v i (j - i + 1) can.vehicle.low can.vehicle.high
  touched_unlike (Cross v k w l) changes made =
      let can = (law.possible.cross n routes v k w l).0 (cond_some (is_possible n routes (Cross v k w l)) (changes_by routes (Cross v k w l)) changes made).0 in
      let left : customers_of (touches v (k + 1) (drop k (route_at routes v))) ≡ drop k (route_at routes v) = named_touches v (k + 1) (drop k (route_at routes v)) in
      let right : customers_of (touches w (l + 1) (drop l (route_at routes w))) ≡ drop l (route_at routes w) = named_touches w (l + 1) (drop l (route_at routes w)) in
      subst (λ (cs : List ℕ). Unlike cs)
      (sym (customers_joined (touches v (k + 1) (drop k (route_at routes v))) (touches w (l + 1) (drop l (route_at routes w)))
      ∙ (ap (λ cs. cs ++ customers_of (touches w (l + 1) (drop l (route_at routes w)))) left ∙ ap (λ cs. drop k (route_at routes v) ++ cs) right)))
      (unlike_joined _ _ (tail_unlike v k can.vehicle.low can.vehicle.high) (tail_unlike w l can.other.low can.other.high)
      (λ d a b.
      let on = stands_behind v k d can.vehicle.low can.vehicle.high a in
      let also = stands_behind w l d can.other.low can.other.high b in
      can.apart (plan.alone d v on.0 w also.0 on.1 also.1).0))

-- ---- the marked ones

-- what is known of an entry: a marked customer, which has no pin afterwards
pub record IsReleased (touched : List Touch) (freed : List Bool) (x : ℕ × Option ℕ) : Type 0 where
  pub k : ℕ
  pub t : Touch
  pub touch : slice_get touched k ≡ Some t
  pub mark : slice_get freed k ≡ Some true
  pub customer : t.customer ≡ x.0
  pub value : x.1 ≡ None

pub released_made : (touched : List Touch) (freed : List Bool) (x : ℕ × Option ℕ) → Contains (released touched freed) x → IsReleased touched freed x
released_made ts [] x at = absurd (none_in x at)
released_made [] (b ∷ bs) x at = absurd (none_in x at)
released_made (t ∷ ts) (true ∷ bs) x at = elim (first_or_later (t.customer, None) x (released ts bs) at) [
  | inl same ↦ record { k = 0; t = t; touch = refl; mark = refl; customer = ap (λ (y : ℕ × Option ℕ). y.0) same; value = sym (ap (λ (y : ℕ × Option ℕ). y.1) same) }
  | inr rest ↦ let r = released_made ts bs x rest in record { k = suc r.k; t = r.t; touch = r.touch; mark = r.mark; customer = r.customer; value = r.value }
]
released_made (t ∷ ts) (false ∷ bs) x at = let r = released_made ts bs x at in record { k = suc r.k; t = r.t; touch = r.touch; mark = r.mark; customer = r.customer; value = r.value }

pub released_there : (touched : List Touch) (freed : List Bool) (k : ℕ) (t : Touch) → slice_get touched k ≡ Some t → slice_get freed k ≡ Some true → Contains (released touched freed) (t.customer, None)
released_there [] bs k t touch mark = absurd cc
released_there (u ∷ us) [] k t touch mark = absurd cc
released_there (u ∷ us) (true ∷ bs) zero t touch mark =
    let same : u ≡ t = cc in subst (λ (w : Touch). Contains ((u.customer, None) ∷ released us bs) (w.customer, None)) same (first (u.customer, None) (released us bs))
released_there (u ∷ us) (false ∷ bs) zero t touch mark = absurd cc
released_there (u ∷ us) (true ∷ bs) (suc k) t touch mark = later (u.customer, None) (t.customer, None) (released us bs) (released_there us bs k t touch mark)
released_there (u ∷ us) (false ∷ bs) (suc k) t touch mark = released_there us bs k t touch mark

mark_is_touched : (touched : List Touch) (freed : List Bool) (d : ℕ) → Contains (map (λ c. c.0) (released touched freed)) d → Contains (customers_of touched) d
mark_is_touched ts bs d at =
    let e = entry_of (released ts bs) d at in
    let r = released_made ts bs e.0 e.1 in
    subst (λ (c : ℕ). Contains (customers_of ts) c) (r.customer ∙ e.2) (among ts r.k r.t r.touch)
  where
    among : (touched : List Touch) (k : ℕ) (t : Touch) → slice_get touched k ≡ Some t → Contains (customers_of touched) t.customer
    among [] k t at = absurd cc
    among (u ∷ us) zero t at = let same : u ≡ t = cc in subst (λ (w : Touch). Contains (u.customer ∷ customers_of us) w.customer) same (first u.customer (customers_of us))
    among (u ∷ us) (suc k) t at = later u.customer t.customer (customers_of us) (among us k t at)

marks_unlike : (touched : List Touch) (freed : List Bool) → Unlike (customers_of touched) → Unlike (map (λ c. c.0) (released touched freed))
marks_unlike ts [] h = tt
marks_unlike [] (b ∷ bs) h = tt
marks_unlike (t ∷ ts) (true ∷ bs) h = ((λ d at. h.0 d (mark_is_touched ts bs d at)), marks_unlike ts bs h.1)
marks_unlike (t ∷ ts) (false ∷ bs) h = marks_unlike ts bs h.1

-- one mark further
pub marks_step : (items : List (ℕ × Option ℕ)) (touched : List Touch) (freed : List Bool) (k : ℕ) (t : Touch) (b : Bool) → slice_get touched k ≡ Some t → slice_get freed k ≡ Some b
    → cond b (items ++ (t.customer, None) ∷ []) items ++ released (drop (k + 1) touched) (drop (k + 1) freed) ≡ items ++ released (drop k touched) (drop k freed)
marks_step items ts bs k t b touch mark =
    (by_mark b) ∙ ap₂ (λ us cs. items ++ released us cs) (sym (from ts t touch)) (sym (from bs b mark))
  where
    from : {X : Type 0} (xs : List X) (x : X) → slice_get xs k ≡ Some x → drop k xs ≡ x ∷ drop (k + 1) xs
    from xs x at = rw add-one (drop-cons xs k x (slice_get_within xs k x at)) ∙ ap (λ y. y ∷ drop (k + 1) xs) (get_or_from_slice_get xs k x x at)

    by_mark : (c : Bool) → cond c (items ++ (t.customer, None) ∷ []) items ++ released (drop (k + 1) ts) (drop (k + 1) bs) ≡ items ++ released (t ∷ drop (k + 1) ts) (c ∷ drop (k + 1) bs)
    by_mark true = append_assoc items ((t.customer, None) ∷ []) (released (drop (k + 1) ts) (drop (k + 1) bs))
    by_mark false = refl

-- ---- the pins that differ

pub record PinLaws : Type 0 where
  pub kept : (s : PinState) (routes : List (List ℕ)) (c v : ℕ) → 1 ≤ c → StandsOn routes c v → pin_of s c ≡ Some v → pin_of (after_commit routes s) c ≡ Some v
  pub gone : (s : PinState) (routes : List (List ℕ)) (c : ℕ) → 1 ≤ c → ¬ IsHeld s routes c → pin_of (after_commit routes s) c ≡ None
  pub none : (s : PinState) (routes : List (List ℕ)) (c : ℕ) → 1 ≤ c → pin_of s c ≡ None → pin_of (after_commit routes s) c ≡ None

module _ (law : PinLaws) (pins : PinState) (others : List (List ℕ)) (touched : List Touch) (freed : List Bool) (n : ℕ) (marks : AreFreed pins others touched freed)
    (known : All (λ t. (1 ≤ t.customer) × (t.customer ≤ n)) touched) (all : (c : ℕ) → 1 ≤ c → IsHeld pins others c ⊎ IsTouched touched c) where
  -- a pin that holds stays
  held_stays : (c : ℕ) → 1 ≤ c → IsHeld pins others c → pin_of (after_commit others pins) c ≡ pin_of pins c
  held_stays c low held = by_pin (pin_of pins c) refl
    where
      by_pin : (pin : Option ℕ) → pin_of pins c ≡ pin → pin_of (after_commit others pins) c ≡ pin_of pins c
      by_pin None is = law.none pins others c low is ∙ sym is
      by_pin (Some v) is = law.kept pins others c v low (held v is) is ∙ sym is

  in_range : (k : ℕ) (t : Touch) → slice_get touched k ≡ Some t → (1 ≤ t.customer) × (t.customer ≤ n)
  in_range k t at =
      subst (λ (u : Touch). (1 ≤ u.customer) × (u.customer ≤ n)) (get_or_from_slice_get touched k t t at) (known k t (slice_get_within touched k t at))

  was_pinned : (c : ℕ) → ¬ IsHeld pins others c → pin_of pins c ≢ None
  was_pinned c loose none = loose (λ v is. let bad = sym none ∙ is in absurd cc)

  pub releases_differ : Unlike (customers_of touched) → AreChangesOf n (pin_of pins) (pin_of (after_commit others pins)) (released touched freed)
  releases_differ unlike = record {
    once = distinct _ (marks_unlike touched freed unlike);
    made = λ k value at.
        let r = released_made touched freed (k, value) at in
        let loose = marks.leave r.k r.t r.touch r.mark in
        let range = in_range r.k r.t r.touch in
        let gone = law.gone pins others r.t.customer range.0 loose in
        let apart : pin_of (after_commit others pins) r.t.customer ≢ pin_of pins r.t.customer = λ e. was_pinned r.t.customer loose (sym e ∙ gone) in
        let here : (1 ≤ r.t.customer) × (r.t.customer ≤ n) × (value ≡ pin_of (after_commit others pins) r.t.customer) × (pin_of (after_commit others pins) r.t.customer ≢ pin_of pins r.t.customer) =
        (range.0, range.1, r.value ∙ sym gone, apart) in
        subst (λ (c : ℕ). (1 ≤ c) × (c ≤ n) × (value ≡ pin_of (after_commit others pins) c) × (pin_of (after_commit others pins) c ≢ pin_of pins c)) r.customer here;
    all = λ k low high differs. elim (all k low) [
      | inl held ↦ absurd (differs (held_stays k low held))
      | inr touch ↦
          let t = touch.1.0 in
          let at = touch.1.1 in
          let same = touch.1.2 in
          elim (marks.stay touch.0 t at) [
            | inl held ↦ absurd (differs (held_stays k low (subst (λ (c : ℕ). IsHeld pins others c) same held)))
            | inr mark ↦
                let gone = law.gone pins others k low (subst (λ (c : ℕ). IsHeld pins others c → ⊥) same (marks.leave touch.0 t at mark)) in
                subst (λ (o : Option ℕ). Contains (released touched freed) (k, o)) (sym gone)
                (subst (λ (c : ℕ). Contains (released touched freed) (c, None)) same (released_there touched freed touch.0 t at mark))
          ]
    ];
  }
