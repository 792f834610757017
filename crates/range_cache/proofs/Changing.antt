-- What is answered where a row of a new route is made.
use Rattle.std.proofs.Common.{◌≡◌, ◌∙◌, ℕ, ◌+◌, ◌*◌, ◌<◌, ◌≤◌, Fits, w32, w64, inl, refl, ap, sym, subst, arith, List, [], ◌∷◌, length, Result, Ok, Err, IfErr, mul-le-mul, ◌++◌, ◌-◌, length-append}
use Rattle.std.specs.Prelude.{OnOk}
use Rattle.callback_store.specs.declared.meter.Meter.{Meter}
use Rattle.callback_store.specs.Meter.{Asks, AsksJust, AsksAtMost, none_asked}
use Rattle.dimension_core.specs.declared.range.Range.{Range}
use Rattle.dimension_core.specs.Cumuls.{Bounds}
use Rattle.dimension_core.specs.Feasible.{FitsAll, FitsIn}
use Rattle.dimension_core.specs.Setting.{Setting}
use Rattle.plan_core.specs.Front.{common_front}
use Rattle.range_cache.specs.Asks.{walk_asks}
use Rattle.range_cache.specs.Cache.{RowState}
use Rattle.range_cache.specs.Row.{IsRowFault, AsksToRowFault, row_asks}
use Rattle.range_cache.specs.declared.fault.JudgeFault.{JudgeFault}
use Rattle.range_cache.specs.declared.fault.JudgeFault.TheVariants.{Bound, NoMemory}
use Rattle.range_cache.specs.Parts.{IsTailOf}
use Rattle.range_cache.proofs.Rows.{AreFilled, IsFound}
use Rattle.range_cache.proofs.Walking.{asks_few}

-- numbers that fit
pub stops_fit : (n : ℕ) → n ≤ 1000 → Fits w32 n
stops_fit n few = omega arith

pub stops_wide : (n : ℕ) → n ≤ 1000 → Fits w64 n
stops_wide n few = omega arith

pub few_ranges : (n : ℕ) (xs ys : List Bounds) → xs ≡ ys → length ys ≤ 8 → n ≤ 1000 → length xs * n ≤ 1000000
few_ranges n xs ys e most few =
    let same = ap length e in
    let high : length xs ≤ 8 = omega arith in
    let all : length xs * n ≤ 8 * 1000 = mul-le-mul {n₁ = length xs} {m₁ = n} {n₂ = 8} {m₂ = 1000} high few in
    omega arith

pub ranges_fit : (n : ℕ) (xs ys : List Bounds) → xs ≡ ys → length ys ≤ 8 → n ≤ 1000 → Fits w64 (length xs * n)
ranges_fit n xs ys e most few = let all = few_ranges n xs ys e most few in omega arith

pub place_fits : (k : ℕ) (xs ys : List Bounds) → xs ≡ ys → length ys ≤ 8 → k < length xs → Fits w32 k
place_fits k xs ys e most h = let same = ap length e in omega arith

pub count_fits : (k : ℕ) (xs ys : List Bounds) → xs ≡ ys → length ys ≤ 8 → k < length xs → Fits w32 (k + 1)
count_fits k xs ys e most h = let same = ap length e in omega arith

pub in_place : (k : ℕ) (xs ys : List Bounds) → xs ≡ ys → k < length xs → k < length ys
in_place k xs ys e h = subst (λ (zs : List Bounds). k < length zs) e h

-- the parts of a route
pub part_short : (before after : List ℕ) → length (before ++ after) ≤ 1000 → length after ≤ 1000
part_short before after short = let e = length-append before after in omega (arith, e, short)

pub both_fit : (before after : List ℕ) → length (before ++ after) ≤ 1000 → Fits w64 (length before + length after)
both_fit before after short = let e = length-append before after in omega (arith, e, short)

pub some_route : (before after : List ℕ) → (length before + length after ≡ 0 → ⊥) → 0 < length (before ++ after)
some_route [] [] none = absurd (none (omega arith))
some_route [] (x ∷ after) none = omega arith
some_route (x ∷ before) after none = omega arith

-- what a change of a row answers, where R says that the row is the new one
pub record IsChange (s : Setting) (v : ℕ) (old new : List ℕ) (from to : Meter) (r : Result (Unit {0}) JudgeFault) (R : Type 0) : Type 0 where
  pub fits : OnOk r (FitsAll s v new)
  pub row : OnOk r R
  pub fault : IfErr r (IsRowFault s v new)
  pub asks : AsksAtMost from to (length s.dimensions * walk_asks old new)
  pub whole : OnOk r (AsksJust from to (length s.dimensions * walk_asks old new))
  pub least : IfErr r (λ f. Asks from to (row_asks (walk_asks old new) f) (length s.dimensions * walk_asks old new))
  pub missed : IfErr r (AsksToRowFault s old v new from to)

-- where memory ran out
pub no_memory : (s : Setting) (v : ℕ) (old new : List ℕ) (from to : Meter) (r : Result (Unit {0}) JudgeFault) (R : Type 0)
    → (y : JudgeFault) × (r ≡ Err y) × (y ≡ NoMemory) → AsksAtMost from to (length s.dimensions * walk_asks old new) → IsChange s v old new from to r R
no_memory s v old new from to r R p asked =
    let e : Err NoMemory ≡ r = sym (p.1 ∙ ap (λ (y : JudgeFault). Err y) p.2) in
    subst (λ (x : Result (Unit {0}) JudgeFault). IsChange s v old new from to x R) e
    (record { fits = tt; row = tt; fault = tt; asks = asked; whole = tt; least = asked; missed = asked })

-- before the first dimension, and in each where the route is empty, nothing is asked
pub none_first : (m : Meter) (n : ℕ) → AsksJust m m (0 * n)
none_first m n = let none : 0 * n ≡ 0 = omega arith in subst (λ (k : ℕ). AsksJust m m k) (sym none) (none_asked m)

none_last : (m : Meter) (n : ℕ) → AsksJust m m (n * 0)
none_last m n = let none : n * 0 ≡ 0 = omega arith in subst (λ (k : ℕ). AsksJust m m k) (sym none) (none_asked m)

-- an empty route
pub nothing_left : (s : Setting) (v : ℕ) (before after : List ℕ) (m : Meter) (ranges : List Range) → length before + length after ≡ 0 → ranges ≡ []
    → IsChange s v before (before ++ after) m m (Ok tt) (IsTailOf s v (length before) (before ++ after) (record { stops = length after; ranges = ranges }))
nothing_left s v [] [] m ranges e none =
    let asked : AsksJust m m (length s.dimensions * 0) = none_last m (length s.dimensions) in
    record {
      fits = λ k h. ∣ inl refl ∣₁;
      row = subst (λ (xs : List Range). IsTailOf s v 0 [] (record { stops = 0; ranges = xs })) (sym none)
          (record { counted = omega arith; sized = omega arith; spans = λ d k h l. absurd (omega arith) });
      fault = tt;
      asks = asks_few m m _ asked;
      whole = asked;
      least = tt;
      missed = tt;
    }
nothing_left s v [] (x ∷ after) m ranges e none = absurd (omega arith)
nothing_left s v (x ∷ before) after m ranges e none = absurd (omega arith)

pub all_places : (d n m : ℕ) → n ≡ m → n ≤ d → d ≤ n → d ≡ m
all_places d n m e last first = omega arith

-- a route that is in bounds in each dimension
pub all_filled : (s : Setting) (v : ℕ) (before after : List ℕ) (from to : Meter) (row : RowState) (d : ℕ) (xs : List Bounds) → xs ≡ s.dimensions → length xs ≤ d → d ≤ length xs
    → row.stops ≡ length after → AreFilled (IsFound s v (length before) (before ++ after)) (length after) d row.ranges → ((k : ℕ) → k < d → FitsIn s k v (before ++ after))
    → AsksJust from to (d * walk_asks before (before ++ after)) → IsChange s v before (before ++ after) from to (Ok tt) (IsTailOf s v (length before) (before ++ after) row)
all_filled s v before after from to row d xs is last first counted filled fits asked =
    let all : d ≡ length s.dimensions = all_places d (length xs) (length s.dimensions) (ap length is) last first in
    let whole : AsksJust from to (length s.dimensions * walk_asks before (before ++ after)) = subst (λ (n : ℕ). AsksJust from to (n * walk_asks before (before ++ after))) all asked in
    let same : AreFilled (IsFound s v (length before) (before ++ after)) (length after) (length s.dimensions) row.ranges =
    subst (λ (n : ℕ). AreFilled (IsFound s v (length before) (before ++ after)) (length after) n row.ranges) all filled in
    let done : AreFilled (IsFound s v (length before) (before ++ after)) row.stops (length s.dimensions) row.ranges =
    subst (λ (n : ℕ). AreFilled (IsFound s v (length before) (before ++ after)) n (length s.dimensions) row.ranges) (sym counted) same in
    record {
      fits = subst (λ (m : ℕ). (k : ℕ) → k < m → FitsIn s k v (before ++ after)) all fits;
      row = record {
        counted = ap (λ (n : ℕ). length before + n) counted ∙ sym (length-append before after);
        sized = done.sized;
        spans = done.each;
      };
      fault = tt;
      asks = asks_few from to _ whole;
      whole = whole;
      least = tt;
      missed = tt;
    }

-- room for all ranges
pub room_first : (n room : ℕ) (xs ys : List Bounds) → xs ≡ ys → length xs * n ≤ room → length ys * n ≤ room
room_first n room xs ys e enough = subst (λ (zs : List Bounds). length zs * n ≤ room) e enough

pub room_kept : (n a b : ℕ) → n ≤ a → a ≤ b → n ≤ b
room_kept n a b enough more = omega arith

pub fits_none : (s : Setting) (v : ℕ) (route : List ℕ) (d : ℕ) → d < 0 → FitsIn s d v route
fits_none s v route d h = absurd (omega arith)

-- the same of another old route, which the new one leaves at the same place
walk_asks_as : (old other new : List ℕ) → common_front other new ≡ common_front old new → walk_asks other new ≡ walk_asks old new
walk_asks_as old other [] e = refl
walk_asks_as old other (c ∷ cs) e = ap (λ (n : ℕ). length (c ∷ cs) + 1 - n) e

miss_as : (s : Setting) (v : ℕ) (old other new : List ℕ) (from to : Meter) (f : JudgeFault) → common_front other new ≡ common_front old new
    → AsksToRowFault s other v new from to f → AsksToRowFault s old v new from to f
miss_as s v old other new from to NoMemory e p = subst (λ (n : ℕ). AsksAtMost from to (length s.dimensions * n)) (walk_asks_as old other new e) p
miss_as s v old other new from to (Bound w d) e p =
    let k : ℕ = p.1.0 in
    let all = walk_asks_as old other new e in
    let same : (d - 1) * walk_asks other new + (k - common_front other new) ≡ (d - 1) * walk_asks old new + (k - common_front old new) =
    λ i. (d - 1) * all i + (k - e i) in
    (p.0, (k, p.1.1, p.1.2 ∙ same), p.2)

pub changed_from : (s : Setting) (v : ℕ) (old other new : List ℕ) (from to : Meter) (r : Result (Unit {0}) JudgeFault) (R : Type 0) → common_front other new ≡ common_front old new
    → IsChange s v other new from to r R → IsChange s v old new from to r R
changed_from s v old other new from to r R e change =
    let all = walk_asks_as old other new e in
    record {
      fits = change.fits;
      row = change.row;
      fault = change.fault;
      asks = subst (λ (n : ℕ). AsksAtMost from to (length s.dimensions * n)) all change.asks;
      whole = subst (λ (n : ℕ). OnOk r (AsksJust from to (length s.dimensions * n))) all change.whole;
      least = subst (λ (n : ℕ). IfErr r (λ f. Asks from to (row_asks n f) (length s.dimensions * n))) all change.least;
      missed = missed_as r change.missed;
    }
  where
    missed_as : (r : Result (Unit {0}) JudgeFault) → IfErr r (AsksToRowFault s other v new from to) → IfErr r (AsksToRowFault s old v new from to)
    missed_as (Ok x) p = tt
    missed_as (Err f) p = miss_as s v old other new from to f e p
