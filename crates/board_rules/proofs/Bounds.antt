-- Whether a route is in bounds is decided: the cumuls that are reached at a stop are an interval, or there are none.
use Rattle.std.proofs.Common.{◌≡◌, ℕ, zero, suc, ◌+◌, ◌-◌, ◌<◌, ◌≤◌, ◌⊎◌, inl, inr, Bool, true, false, List, [], ◌∷◌, ◌++◌, length, Option, Some, None, refl, sym, subst, arith}
use Rattle.std.specs.Prelude.{min, max}
use Rattle.std.proofs.lemmas.Bool.{cases_lt, both_ways}
use Rattle.std.proofs.lemmas.List.{append_assoc, append-nil}
use Rattle.callback_store.specs.Tables.{Table, entry}
use Rattle.dimension_core.specs.declared.range.Range.{Range}
use Rattle.dimension_core.specs.Cumuls.{Bounds, IsStart, IsStep, IsWithin, IsSpan, Reaches, IsInBounds, last_of, range_of, cap_of, table_of}
use Rattle.dimension_core.specs.Feasible.{FitsIn, FitsAll, IsFirstOut}
use Rattle.dimension_core.specs.NewRoutes.{Changes, AllFit, IsOut}
use Rattle.dimension_core.specs.Laws.{SpansGoOn}
use Rattle.dimension_core.specs.Setting.{Setting, dimension_at}

-- the numbers from one to another are an interval, or there are none
interval : (l h : ℕ) (P : ℕ → Type 0) → ((x : ℕ) → P x → (l ≤ x) × (x ≤ h)) → ((x : ℕ) → l ≤ x → x ≤ h → P x) → (o : Option Range) × IsSpan o P
interval l h P within from = elim (cases_lt h l) [
  | inl none ↦ (None, record { filled = tt; inside = λ x in_none. absurd in_none; all = λ x p. let at = within x p in let low = at.0 in let high = at.1 in absurd (omega (arith, none, low, high)) })
  | inr some ↦ (Some (record { lo = l; hi = h }), record { filled = some; inside = λ x at. from x at.0 at.1; all = within })
]

module _ (t : Table) (d : Bounds) (vehicle : ℕ) where
  start_span : (o : Option Range) × IsSpan o (IsStart d vehicle)
  start_span = by_flag d.fixed refl
    where
      by_flag : (flag : Bool) → d.fixed ≡ flag → (o : Option Range) × IsSpan o (IsStart d vehicle)
      by_flag true is = interval (range_of d 0).lo 0 (IsStart d vehicle)
          (λ x start. let z = start.zeroed is in (start.cumul.low, omega (arith, z)))
          (λ x low high. record {
            cumul = record { low = low; high = omega (arith, high); capped = omega (arith, high) };
            zeroed = λ flagged. omega (arith, high);
          })
      by_flag false is = interval (range_of d 0).lo (min (range_of d 0).hi (cap_of d vehicle)) (IsStart d vehicle)
          (λ x start. let high = start.cumul.high in let capped = start.cumul.capped in (start.cumul.low, omega (arith, high, capped)))
          (λ x low high. record {
            cumul = record { low = low; high = omega (arith, high); capped = omega (arith, high) };
            zeroed = λ flagged. absurd (both_ways d.fixed is flagged);
          })

  step_span : (r : Range) → r.lo ≤ r.hi → (i j : ℕ) → (o : Option Range) × IsSpan o (λ y. (x : ℕ) × IsWithin (Some r) x × IsStep t d vehicle i x j y)
  step_span r filled i j =
      let e : ℕ = entry t i j in
      interval (max (range_of d j).lo (r.lo + e)) (min (min (range_of d j).hi (cap_of d vehicle)) (r.hi + e + d.slack_max))
      (λ y. (x : ℕ) × IsWithin (Some r) x × IsStep t d vehicle i x j y)
      (λ y from.
      let low = from.1.0 in
      let high = from.1.1 in
      let cumul_low = from.2.cumul.low in
      let cumul_high = from.2.cumul.high in
      let capped = from.2.cumul.capped in
      let slack = from.2.slack in
      let within = from.2.within in
      (omega (arith, low, slack, cumul_low), omega (arith, high, within, cumul_high, capped)))
      (λ y low high. (
        max r.lo (y - e - d.slack_max),
        (omega arith, omega (arith, low, high, filled)),
        record {
          cumul = record { low = omega (arith, low); high = omega (arith, high); capped = omega (arith, high) };
          slack = omega (arith, low);
          within = omega (arith, low, high);
        },
      ))

  module _ (law : SpansGoOn) where
    go : (done rest : List ℕ) (o : Option Range) → IsSpan o (Reaches t d vehicle done) → (p : Option Range) × IsSpan p (Reaches t d vehicle (done ++ rest))
    go done [] o h = (o, subst (λ (xs : List ℕ). IsSpan o (Reaches t d vehicle xs)) (sym (append-nil done)) h)
    go done (n ∷ ns) None h = (None, law.none t d vehicle done (n ∷ ns) h)
    go done (n ∷ ns) (Some r) h =
        let next = step_span r h.filled (last_of 0 done) n in
        let on = go (done ++ n ∷ []) ns next.0 (law.push t d vehicle done n r next.0 h next.1) in
        (on.0, subst (λ (xs : List ℕ). IsSpan on.0 (Reaches t d vehicle xs)) (append_assoc done (n ∷ []) ns) on.1)

    span_of : (nodes : List ℕ) → (o : Option Range) × IsSpan o (Reaches t d vehicle nodes)
    span_of nodes = go [] nodes start_span.0 (law.start t d vehicle start_span.0 start_span.1)

    in_bounds_or_not : (route : List ℕ) → IsInBounds t d vehicle route ⊎ (IsInBounds t d vehicle route → ⊥)
    in_bounds_or_not [] = inl ∣ inl refl ∣₁
    in_bounds_or_not (c ∷ cs) = by_span (span_of ((c ∷ cs) ++ 0 ∷ [])).0 (span_of ((c ∷ cs) ++ 0 ∷ [])).1
      where
        by_span : (o : Option Range) → IsSpan o (Reaches t d vehicle ((c ∷ cs) ++ 0 ∷ [])) → IsInBounds t d vehicle (c ∷ cs) ⊎ (IsInBounds t d vehicle (c ∷ cs) → ⊥)
        by_span None h = inr (λ fits. both_ways false refl ((law.bounds t d vehicle (c ∷ cs) None (omega arith) h).1 fits))
        by_span (Some r) h = inl ((law.bounds t d vehicle (c ∷ cs) (Some r) (omega arith) h).0 refl)

module _ (law : SpansGoOn) (s : Setting) where
  fits_or_not : (k vehicle : ℕ) (route : List ℕ) → FitsIn s k vehicle route ⊎ (FitsIn s k vehicle route → ⊥)
  fits_or_not k vehicle route = in_bounds_or_not (table_of s.tables (dimension_at s k)) (dimension_at s k) vehicle law route

  -- the route is in bounds in each of the first n dimensions, or there is a first one in which it is not
  fits_until : (vehicle : ℕ) (route : List ℕ) (n : ℕ) → n ≤ length s.dimensions
      → ((k : ℕ) → k < n → FitsIn s k vehicle route) ⊎ ((d : ℕ) × IsFirstOut s vehicle route d)
  fits_until vehicle route zero few = inl (λ k below. absurd (omega (arith, below)))
  fits_until vehicle route (suc n) few = elim (fits_until vehicle route n (omega (arith, few))) [
    | inr out ↦ inr out
    | inl before ↦ elim (fits_or_not n vehicle route) [
      | inl fits ↦ inl (λ k below. one_more n before fits k below)
      | inr out ↦ inr (
        suc n,
        record {
          low = omega arith;
          high = few;
          out = subst (λ (k : ℕ). FitsIn s k vehicle route → ⊥) (let e : n ≡ suc n - 1 = omega arith in e) out;
          before = λ k early. before k (omega (arith, early));
        },
      )
    ]
  ]
    where
      one_more : (n : ℕ) → ((k : ℕ) → k < n → FitsIn s k vehicle route) → FitsIn s n vehicle route → (k : ℕ) → k < suc n → FitsIn s k vehicle route
      one_more n before fits k below = elim (cases_lt k n) [
        | inl early ↦ before k early
        | inr late ↦ subst (λ (j : ℕ). FitsIn s j vehicle route) (let e : n ≡ k = omega (arith, late, below) in e) fits
      ]

  all_or_first : (vehicle : ℕ) (route : List ℕ) → FitsAll s vehicle route ⊎ ((d : ℕ) × IsFirstOut s vehicle route d)
  all_or_first vehicle route = fits_until vehicle route (length s.dimensions) (omega arith)

  -- all new routes are in bounds, or there is a first one that is not
  pub fit_or_out : (cs : Changes) → AllFit s cs ⊎ ((v : ℕ) × ((d : ℕ) × IsOut s cs v d))
  fit_or_out [] = inl tt
  fit_or_out (c ∷ cs) = elim (all_or_first c.0 c.1) [
    | inr out ↦
        let low = out.1.low in
        let high = out.1.high in
        inr (c.0, (out.0, ((λ none. (refl, out.1)), (λ fits. absurd (out.1.out (fits (out.0 - 1) (omega (arith, low, high))))))))
    | inl fits ↦ elim (fit_or_out cs) [
      | inl rest ↦ inl (fits, rest)
      | inr out ↦ inr (out.0, (out.1.0, ((λ none. absurd (none fits)), (λ yes'. out.1.1))))
    ]
  ]
