-- How many asks are made up to the first stop at which no cumul is left.
use Rattle.std.proofs.Common.{◌≡◌, ℕ, ◌+◌, ◌-◌, ◌*◌, ◌<◌, ◌≤◌, refl, ap, sym, subst, arith, List, [], ◌∷◌, ◌++◌, length, take, Option, Some, None, is_some, false}
use Rattle.std.proofs.lemmas.List.{take-append-le, take_all, length_push}
use Rattle.callback_store.specs.declared.meter.Meter.{Meter}
use Rattle.callback_store.specs.Meter.{AsksJust, none_asked, asks_both, asks_wider}
use Rattle.dimension_core.specs.declared.range.Range.{Range}
use Rattle.dimension_core.specs.Cumuls.{table_of}
use Rattle.dimension_core.specs.Feasible.{FitsAll}
use Rattle.dimension_core.specs.Misses.{IsFirstMissIn, MissesAreFound}
use Rattle.dimension_core.specs.Setting.{Setting, dimension_at}
use Rattle.dimension_core.specs.Spans.{IsSpanOf}
use Rattle.plan_core.specs.Front.{common_front}
use Rattle.plan_core.specs.Plan.{Changes, route_at}
use Rattle.range_cache.specs.Asks.{walk_asks, IsAskedTo, AsksToFault}
use Rattle.range_cache.specs.Row.{IsRowFault, AsksToRowFault}
use Rattle.range_cache.specs.Track.{IsSpanAt}
use Rattle.range_cache.specs.declared.fault.JudgeFault.{JudgeFault}
use Rattle.range_cache.specs.declared.fault.JudgeFault.TheVariants.{Bound, NoMemory}
use Rattle.range_cache.proofs.Caches.{not_out}
use Rattle.range_cache.proofs.Fronts.{front_whole}
use Rattle.range_cache.proofs.Judged.{AreAsked, asked_out}

-- a walk that missed: its first miss, and the asks after the kept ranges up to it
abbrev pub Missed : Setting → ℕ → ℕ → List ℕ → ℕ → Meter → Meter → Type 0
Missed s d v route kept from to = (k : ℕ) × IsFirstMissIn s d v route k × AsksJust from to (k - kept)

-- at the depot
pub missed_start : MissesAreFound → (s : Setting) (d v : ℕ) (route : List ℕ) (kept : ℕ) (m : Meter) → IsSpanAt s d v [] None → Missed s d v route kept m m
missed_start law s d v route kept m none =
    (0, law.start (table_of s.tables (dimension_at s d)) (dimension_at s d) v (route ++ 0 ∷ []) none, asks_wider m m _ _ _ _ (none_asked m) (omega arith) (omega arith))

module _ (law : MissesAreFound) (s : Setting) (d v : ℕ) (route : List ℕ) (place : ℕ) (r : Range) (span : IsSpanOf s d v (take place route) r) where
  -- at one more stop
  missed_stop : place ≤ length route → IsSpanAt s d v (take (place + 1) (route ++ 0 ∷ [])) None → IsFirstMissIn s d v route (place + 1)
  missed_stop within none =
      let long : length (route ++ 0 ∷ []) ≡ length route + 1 = length_push route 0 in
      law.next (table_of s.tables (dimension_at s d)) (dimension_at s d) v (route ++ 0 ∷ []) place r (omega arith)
      (subst (λ (js : List ℕ). IsSpanOf s d v js r) (sym (take-append-le place route (0 ∷ []) within)) span) none

  -- at one more customer
  missed_customer : place < length route → IsSpanAt s d v (take (place + 1) route) None → IsFirstMissIn s d v route (place + 1)
  missed_customer within none =
      missed_stop (omega arith) (subst (λ (js : List ℕ). IsSpanAt s d v js None) (sym (take-append-le (place + 1) route (0 ∷ []) (omega arith))) none)

  -- at the return
  missed_return : (o : Option Range) → place ≤ length route → length route ≤ place → IsSpanAt s d v (route ++ 0 ∷ []) o → is_some o ≡ false → IsFirstMissIn s d v route (place + 1)
  missed_return None within end none e =
      let long : length (route ++ 0 ∷ []) ≡ length route + 1 = length_push route 0 in
      missed_stop within (subst (λ (js : List ℕ). IsSpanAt s d v js None) (sym (take_all (place + 1) (route ++ 0 ∷ []) (omega arith))) none)
  missed_return (Some x) within end none e = absurd cc

-- the asks up to it
missed_ask : (s : Setting) (d v : ℕ) (route : List ℕ) (place kept : ℕ) (from to : Meter) → AsksJust from to (place + 1 - kept)
    → IsFirstMissIn s d v route (place + 1) → Missed s d v route kept from to
missed_ask s d v route place kept from to asked miss = (place + 1, miss, asked)

pub missed_at : MissesAreFound → (s : Setting) (d v : ℕ) (route : List ℕ) (place kept : ℕ) (r : Range) (from to : Meter) → IsSpanOf s d v (take place route) r
    → place < length route → IsSpanAt s d v (take (place + 1) route) None → AsksJust from to (place + 1 - kept) → Missed s d v route kept from to
missed_at law s d v route place kept r from to span within none asked =
    missed_ask s d v route place kept from to asked (missed_customer law s d v route place r span within none)

pub missed_back : MissesAreFound → (s : Setting) (d v : ℕ) (route : List ℕ) (place kept : ℕ) (r : Range) (o : Option Range) (from to : Meter) → IsSpanOf s d v (take place route) r
    → place ≤ length route → length route ≤ place → IsSpanAt s d v (route ++ 0 ∷ []) o → is_some o ≡ false
    → AsksJust from to (place + 1 - kept) → Missed s d v route kept from to
missed_back law s d v route place kept r o from to span within end none e asked =
    missed_ask s d v route place kept from to asked (missed_return law s d v route place r span o within end none e)

-- a row, where a walk in one dimension missed
pub row_missed : (s : Setting) (v d : ℕ) (before after : List ℕ) (a b c : Meter) → AsksJust a b (d * walk_asks before (before ++ after)) → Missed s d v (before ++ after) (length before) b c
    → AsksToRowFault s before v (before ++ after) a c (Bound v (d + 1))
row_missed s v d before after a b c p q =
    let k : ℕ = q.0 in
    let back : d ≡ d + 1 - 1 = omega arith in
    let each : (d + 1 - 1) * walk_asks before (before ++ after) ≡ d * walk_asks before (before ++ after) = ap (λ (n : ℕ). n * walk_asks before (before ++ after)) (sym back) in
    let rest : k - common_front before (before ++ after) ≡ k - length before = ap (λ (n : ℕ). k - n) (front_whole before after) in (
      (d + 1 - 1) * walk_asks before (before ++ after) + (k - common_front before (before ++ after)),
      (k, subst (λ (n : ℕ). IsFirstMissIn s n v (before ++ after) k) back q.1, refl),
      asks_both a b c _ _ _ _ _ _ p q.2 (omega (arith, each, rest)) (omega (arith, each, rest)),
    )

-- what is asked for the new routes that are left, after the asks so far, is what is asked for all of them
abbrev pub AreAskedTo : Setting → List (List ℕ) → Changes → Changes → Meter → Meter → Type 0
AreAskedTo s routes all rest from to =
    (d n : ℕ) (end : Meter) → IsAskedTo s routes rest d n → AsksJust to end n → (m : ℕ) × IsAskedTo s routes all d m × AsksJust from end m

pub asked_to_all : (s : Setting) (routes : List (List ℕ)) (all : Changes) (m : Meter) → AreAskedTo s routes all all m m
asked_to_all s routes all m d n end o p = (n, o, p)

pub asked_to_next : (s : Setting) (routes : List (List ℕ)) (all rest next : Changes) (c : ℕ × List ℕ) (from a b : Meter) → AreAskedTo s routes all rest from a → rest ≡ c ∷ next
    → FitsAll s c.0 c.1 → AsksJust a b (length s.dimensions * walk_asks (route_at routes c.0) c.1) → AreAskedTo s routes all next from b
asked_to_next s routes all rest next c from a b so_far e fits p d n end o q =
    let so_far' = subst (λ (cs : Changes). AreAskedTo s routes all cs from a) e so_far in
    so_far' d (length s.dimensions * walk_asks (route_at routes c.0) c.1 + n) end ((λ none. absurd (none fits)), (λ yes. (n, o, refl)))
    (asks_both a b end _ _ _ _ _ _ p q (omega arith) (omega arith))

-- and where the next of them is out of bounds
pub asked_to_fault : (s : Setting) (routes : List (List ℕ)) (all rest next : Changes) (c : ℕ × List ℕ) (e : JudgeFault) (from a b : Meter)
    → AreAsked (length s.dimensions) routes all rest from a → AreAskedTo s routes all rest from a → rest ≡ c ∷ next → IsRowFault s c.0 c.1 e
    → AsksToRowFault s (route_at routes c.0) c.0 c.1 a b e → AsksToFault s routes all from b e
asked_to_fault s routes all rest next c NoMemory from a b p so_far is f q = asked_out (length s.dimensions) routes all rest next c from a b p is q
asked_to_fault s routes all rest next c (Bound v d) from a b p so_far is f q =
    let so_far' = subst (λ (cs : Changes). AreAskedTo s routes all cs from a) is so_far in
    so_far' d q.0 b ((λ none. q.1), (λ fits. absurd (not_out s c.0 c.1 d fits f.1))) q.2
