-- Whose spot differs after a move.
use Rattle.std.proofs.Common.{◌≡◌, ◌≢◌, ℕ, zero, suc, ◌-◌, ◌<◌, ◌≤◌, ◌⊎◌, inl, inr, List, [], ◌∷◌, length, take, Option, Some, None, refl, sym, ap, ◌∙◌, arith}
use Rattle.std.specs.Prelude.{slice_get}
use Rattle.std.proofs.lemmas.Bool.{cases_eq, cases_lt}
use Rattle.plan_core.specs.Plan.{Changes, StandsAt, IsPlan, IsNamed, route_at}
use Rattle.move_core.specs.declared.moves.Move.{Move}
use Rattle.move_core.specs.Moves.{changes_by, effect}
use Rattle.move_core.specs.Changed.{first_change}
use Rattle.board_rules.specs.Delta.{spot_in}
use Rattle.board_rules.specs.Given.{Laws}
use Rattle.board_rules.specs.Rules.{routes_after}
use Rattle.board_rules.proofs.Spots.{spot_found, spot_stands}

-- whether some changes name a vehicle is decided
named_or_not : (changes : Changes) (v : ℕ) → IsNamed changes v ⊎ (IsNamed changes v → ⊥)
named_or_not [] v = inr (λ h. h)
named_or_not (c ∷ cs) v = elim (cases_eq v c.0) [
  | inl here ↦ inl (inl here)
  | inr other ↦ elim (named_or_not cs v) [
    | inl later ↦ inl (inr later)
    | inr none ↦ inr (λ h. elim h [ inl here ↦ other here | inr later ↦ none later ])
  ]
]

-- the places within a prefix of a list are those of the list
within_taken : (n k : ℕ) (xs : List ℕ) → k < n → slice_get (take n xs) k ≡ slice_get xs k
within_taken zero k xs h = absurd (omega (arith, h))
within_taken (suc n) k [] h = refl
within_taken (suc n) zero (x ∷ xs) h = refl
within_taken (suc n) (suc k) (x ∷ xs) h = within_taken n k xs (omega (arith, h))

module _ (law : Laws) (n : ℕ) (routes : List (List ℕ)) (mv : Move) (c : ℕ) (plan : IsPlan n routes) (possible : effect n routes mv ≡ Some (changes_by routes mv)) where
  others : List (List ℕ)
  others = routes_after routes mv

  Found : Type 0
  Found = (v : ℕ) × ((p : ℕ) × IsNamed (changes_by routes mv) v × (first_change mv v ≤ p) × (StandsAt routes c v p ⊎ StandsAt (routes_after routes mv) c v p))

  -- a place that is not at or after a first change is the same before and after the move
  same_place : (v p : ℕ) → 1 ≤ v → 1 ≤ p → (IsNamed (changes_by routes mv) v → p < first_change mv v) → slice_get (route_at others v) (p - 1) ≡ slice_get (route_at routes v) (p - 1)
  unfolding others
  same_place v p low from early = elim (named_or_not (changes_by routes mv) v) [
    | inr unnamed ↦ ap (λ (r : List ℕ). slice_get r (p - 1)) (law.fronts.others n routes mv (changes_by routes mv) v possible low unnamed)
    | inl named ↦
        let change = law.fronts.place n routes mv (changes_by routes mv) v plan possible named in
        let before = early named in
        let within : p - 1 < first_change mv v - 1 = omega (arith, before, from) in
        sym (within_taken (first_change mv v - 1) (p - 1) (route_at (routes_after routes mv) v) within)
        ∙ (ap (λ (r : List ℕ). slice_get r (p - 1)) change.same
        ∙ within_taken (first_change mv v - 1) (p - 1) (route_at routes v) within)
  ]

  count : length others ≡ length routes
  unfolding others
  count = law.routes.count (changes_by routes mv) routes

  stays : (v p : ℕ) → (IsNamed (changes_by routes mv) v → p < first_change mv v) → StandsAt routes c v p → StandsAt others c v p
  stays v p early at =
      let high = at.high in
      let sized = count in
      record { low = at.low; high = omega (arith, high, sized); place = at.place; found = same_place v p at.low at.place early ∙ at.found }

  was : (v p : ℕ) → (IsNamed (changes_by routes mv) v → p < first_change mv v) → StandsAt others c v p → StandsAt routes c v p
  was v p early at =
      let high = at.high in
      let sized = count in
      record { low = at.low; high = omega (arith, high, sized); place = at.place; found = sym (same_place v p at.low at.place early) ∙ at.found }

  -- a customer that stands at a place: there before and after, or on a named vehicle at or after the first change
  here_or_found : (v p : ℕ) → (StandsAt routes c v p ⊎ StandsAt (routes_after routes mv) c v p) → (IsNamed (changes_by routes mv) v → p < first_change mv v) ⊎ Found
  unfolding Found
  here_or_found v p at = elim (named_or_not (changes_by routes mv) v) [
    | inr unnamed ↦ inl (λ named. absurd (unnamed named))
    | inl named ↦ elim (cases_lt p (first_change mv v)) [
      | inl early ↦ inl (λ _. early)
      | inr late ↦ inr (v, (p, named, late, at))
    ]
  ]

  next_plan : IsPlan n others
  unfolding others
  next_plan = law.keeps.plan n routes mv (changes_by routes mv) plan possible

  pub moved_on_named : spot_in (routes_after routes mv) c ≢ spot_in routes c
      → (v : ℕ) × ((p : ℕ) × IsNamed (changes_by routes mv) v × (first_change mv v ≤ p) × (StandsAt routes c v p ⊎ StandsAt (routes_after routes mv) c v p))
  unfolding Found others
  moved_on_named differs = by_old (spot_in routes c) refl
    where
      by_new : spot_in routes c ≡ None → (new : Option (ℕ × ℕ)) → spot_in (routes_after routes mv) c ≡ new → Found
      by_new old None new = absurd (differs (new ∙ sym old))
      by_new old (Some spot) new =
          let at = spot_stands law.stands law.among (routes_after routes mv) c spot.0 spot.1 new in
          elim (here_or_found spot.0 spot.1 (inr at)) [
            | inr found ↦ found
            | inl early ↦
                let there = spot_found law.stands law.among n routes c spot.0 spot.1 plan (was spot.0 spot.1 early at) in
                let e = sym old ∙ there in absurd cc
          ]

      by_old : (old : Option (ℕ × ℕ)) → spot_in routes c ≡ old → Found
      by_old None old = by_new old (spot_in (routes_after routes mv) c) refl
      by_old (Some spot) old =
          let at = spot_stands law.stands law.among routes c spot.0 spot.1 old in
          elim (here_or_found spot.0 spot.1 (inl at)) [
            | inr found ↦ found
            | inl early ↦ absurd (differs (spot_found law.stands law.among n (routes_after routes mv) c spot.0 spot.1 next_plan (stays spot.0 spot.1 early at) ∙ sym old))
          ]
