-- What is answered where new routes are judged, route by route.
use Rattle.std.proofs.Common.{◌≡◌, ◌∙◌, ℕ, ◌+◌, ◌<◌, ◌≤◌, refl, ap, sym, subst, arith, List, ◌∷◌, length, drop, drop-cons, add-one, Result, Err, IfOk, IfErr, suc}
use Rattle.std.specs.Prelude.{OnOk, slice_index_or}
use Rattle.callback_store.specs.declared.meter.Meter.{Meter}
use Rattle.callback_store.specs.Meter.{Asks, AsksJust, AsksAtMost, no_ask}
use Rattle.dimension_core.specs.NewRoutes.{Changes, AllFit}
use Rattle.dimension_core.specs.Setting.{Setting}
use Rattle.plan_core.specs.Plan.{route_at}
use Rattle.range_cache.specs.Asks.{judge_asks, fault_asks, AsksToFault}
use Rattle.range_cache.specs.Cache.{CacheState}
use Rattle.range_cache.specs.Pending.{PendingState, AreNewRows, IsJudgeFault}
use Rattle.range_cache.specs.declared.fault.JudgeFault.{JudgeFault}
use Rattle.range_cache.specs.declared.fault.JudgeFault.TheVariants.{NoMemory}
use Rattle.range_cache.proofs.Changing.{IsChange}
use Rattle.range_cache.proofs.Judged.{IsRest, AreAsked, rest_fault, asked_out, asked_stop}
use Rattle.range_cache.proofs.Misses.{AreAskedTo, asked_to_fault}

-- the change at a place, and those after it
pub next_of : {X : Type 0} (xs : List X) (k : ℕ) (x : X) → x ≡ slice_index_or xs k x → k < length xs → drop k xs ≡ x ∷ drop (k + 1) xs
next_of {X} xs k x is h = rw add-one (drop-cons xs k x h ∙ ap (λ (y : X). y ∷ drop (suc k) xs) (sym is))

pub row_place : (k n m l : ℕ) → k < n → n ≤ m → l ≡ m → k < l
row_place k n m l h e f = omega arith

-- what a judgement answers
pub record IsJudged (s : Setting) (routes : List (List ℕ)) (changes : Changes) (self : CacheState) (from to : Meter) (r : Result PendingState JudgeFault) : Type 0 where
  pub of : IfOk r (λ pending. pending.of ≡ self)
  pub fits : IfOk r (λ pending. AllFit s changes)
  pub rows : IfOk r (λ pending. AreNewRows s changes pending.rows)
  pub fault : IfErr r (IsJudgeFault s changes)
  pub asks : AsksAtMost from to (judge_asks (length s.dimensions) routes changes)
  pub whole : OnOk r (AsksJust from to (judge_asks (length s.dimensions) routes changes))
  pub least : IfErr r (λ f. Asks from to (fault_asks (length s.dimensions) routes changes f) (judge_asks (length s.dimensions) routes changes))
  pub missed : IfErr r (AsksToFault s routes changes from to)

judged_as : (s : Setting) (routes : List (List ℕ)) (changes : Changes) (self : CacheState) (from to : Meter) (r : Result PendingState JudgeFault) (e : JudgeFault)
    → (y : JudgeFault) × (r ≡ Err y) × (y ≡ e) → IsJudged s routes changes self from to (Err e) → IsJudged s routes changes self from to r
judged_as s routes changes self from to r e p judged =
    let same : Err e ≡ r = sym (p.1 ∙ ap (λ (y : JudgeFault). Err y) p.2) in
    subst (λ (x : Result PendingState JudgeFault). IsJudged s routes changes self from to x) same judged

-- what the walks of new routes answer, where R says that they were all walked
pub record AreWalked (s : Setting) (routes : List (List ℕ)) (changes : Changes) (from to : Meter) (r : Result (Unit {0}) JudgeFault) (R : Type 0) : Type 0 where
  pub fits : OnOk r (AllFit s changes)
  pub fresh : OnOk r R
  pub fault : IfErr r (IsJudgeFault s changes)
  pub asks : AsksAtMost from to (judge_asks (length s.dimensions) routes changes)
  pub whole : OnOk r (AsksJust from to (judge_asks (length s.dimensions) routes changes))
  pub least : IfErr r (λ f. Asks from to (fault_asks (length s.dimensions) routes changes f) (judge_asks (length s.dimensions) routes changes))
  pub missed : IfErr r (AsksToFault s routes changes from to)

walked_as : (s : Setting) (routes : List (List ℕ)) (changes : Changes) (from to : Meter) (r : Result (Unit {0}) JudgeFault) (R : Type 0) (e : JudgeFault)
    → (y : JudgeFault) × (r ≡ Err y) × (y ≡ e) → AreWalked s routes changes from to (Err e) R → AreWalked s routes changes from to r R
walked_as s routes changes from to r R e p walked =
    let same : Err e ≡ r = sym (p.1 ∙ ap (λ (y : JudgeFault). Err y) p.2) in
    subst (λ (x : Result (Unit {0}) JudgeFault). AreWalked s routes changes from to x R) same walked

pub walked_none : (s : Setting) (routes : List (List ℕ)) (changes : Changes) (m : Meter) (r : Result (Unit {0}) JudgeFault) (R : Type 0)
    → (y : JudgeFault) × (r ≡ Err y) × (y ≡ NoMemory) → AreWalked s routes changes m m r R
walked_none s routes changes m r R p =
    walked_as s routes changes m m r R NoMemory p (record { fits = tt; fresh = tt; fault = tt; asks = no_ask m _; whole = tt; least = no_ask m _; missed = no_ask m _ })

pub walked_out : (s : Setting) (routes : List (List ℕ)) (all rest next : Changes) (c : ℕ × List ℕ) (e : JudgeFault) (from a b : Meter) (r : Result (Unit {0}) JudgeFault) (R Q : Type 0)
    → (y : JudgeFault) × (r ≡ Err y) × (y ≡ e) → IsRest s all rest → AreAsked (length s.dimensions) routes all rest from a → AreAskedTo s routes all rest from a → rest ≡ c ∷ next
    → IsChange s c.0 (route_at routes c.0) c.1 a b (Err e) Q → AreWalked s routes all from b r R
walked_out s routes all rest next c e from a b r R Q p left asked asked_to is change =
    walked_as s routes all from b r R e p
    (record {
      fits = tt;
      fresh = tt;
      fault = rest_fault s all rest next c e left is change.fault;
      asks = asked_out (length s.dimensions) routes all rest next c from a b asked is change.asks;
      whole = tt;
      least = asked_stop (length s.dimensions) routes s all rest next c e from a b refl asked is change.fault change.least;
      missed = asked_to_fault s routes all rest next c e from a b asked asked_to is change.fault change.missed;
    })

-- a judgement that ends with the walks
pub judged_out : (s : Setting) (routes : List (List ℕ)) (changes : Changes) (self : CacheState) (e : JudgeFault) (from to : Meter) (r : Result PendingState JudgeFault) (R : Type 0)
    → (y : JudgeFault) × (r ≡ Err y) × (y ≡ e) → AreWalked s routes changes from to (Err e) R → IsJudged s routes changes self from to r
judged_out s routes changes self e from to r R p walked =
    judged_as s routes changes self from to r e p
    (record { of = tt; fits = tt; rows = tt; fault = walked.fault; asks = walked.asks; whole = tt; least = walked.least; missed = walked.missed })

-- and one where memory runs out after them
pub judged_full : (s : Setting) (routes : List (List ℕ)) (changes : Changes) (self : CacheState) (from to : Meter) (r : Result PendingState JudgeFault)
    → (y : JudgeFault) × (r ≡ Err y) × (y ≡ NoMemory) → AsksAtMost from to (judge_asks (length s.dimensions) routes changes) → IsJudged s routes changes self from to r
judged_full s routes changes self from to r p asked =
    judged_as s routes changes self from to r NoMemory p (record { of = tt; fits = tt; rows = tt; fault = tt; asks = asked; whole = tt; least = asked; missed = asked })
