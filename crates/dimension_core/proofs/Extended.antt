use Rattle.std.proofs.Common.{◌≡◌, ℕ, ◌+◌, ◌-◌, ◌<◌, ◌≤◌, max, min, arith, Some, None}
use Rattle.callback_store.specs.Tables.{Table, entry}
use Rattle.dimension_core.specs.declared.range.Range.{Range}
use Rattle.dimension_core.specs.Cumuls.{Bounds, cap_of, range_of, IsStep, IsWithin, IsSpan}

-- the numbers that come after those of an interval are an interval
pub extended_span : (t : Table) (d : Bounds) (vehicle i j : ℕ) (r o : Range) → r.lo ≤ r.hi → (range_of d j).hi ≤ 1000000000000
    → o.lo ≡ max (min (r.lo + entry t i j) 18446744073709551615) (range_of d j).lo
    → o.hi ≡ min (min (min (r.hi + (entry t i j + d.slack_max)) 18446744073709551615) (range_of d j).hi) (cap_of d vehicle)
    → o.lo ≤ o.hi
    → IsSpan (Some o) (λ y. (x : ℕ) × IsWithin (Some r) x × IsStep t d vehicle i x j y)
extended_span t d vehicle i j r o filled small lo hi full = record {
  filled = full;
  inside = λ y w. let from = w.0 in let to = w.1 in (
    max r.lo (y - (entry t i j + d.slack_max)),
    (omega arith, omega arith),
    record {
      cumul = record { low = omega arith; high = omega arith; capped = omega arith };
      slack = omega arith;
      within = omega arith;
    },
  );
  all = λ y p. let x = p.0 in let w = p.1 in let s = p.2 in (omega arith, omega arith);
}

-- and so they are where no sum is cut off
pub after_span : (t : Table) (d : Bounds) (vehicle i j way : ℕ) (r o : Range) → r.lo ≤ r.hi → way ≡ entry t i j
    → o.lo ≡ max (r.lo + way) (range_of d j).lo
    → o.hi ≡ min (min (r.hi + way + d.slack_max) (range_of d j).hi) (cap_of d vehicle)
    → o.lo ≤ o.hi
    → IsSpan (Some o) (λ y. (x : ℕ) × IsWithin (Some r) x × IsStep t d vehicle i x j y)
after_span t d vehicle i j way r o filled same lo hi full = record {
  filled = full;
  inside = λ y w. let from = w.0 in let to = w.1 in (
    max r.lo (y - (entry t i j + d.slack_max)),
    (omega arith, omega arith),
    record {
      cumul = record { low = omega arith; high = omega arith; capped = omega arith };
      slack = omega arith;
      within = omega arith;
    },
  );
  all = λ y p. let x = p.0 in let w = p.1 in let s = p.2 in (omega arith, omega arith);
}

-- there is none where the least would be above the greatest
pub after_none : (t : Table) (d : Bounds) (vehicle i j way lo hi : ℕ) (r : Range) → way ≡ entry t i j
    → lo ≡ max (r.lo + way) (range_of d j).lo
    → hi ≡ min (min (r.hi + way + d.slack_max) (range_of d j).hi) (cap_of d vehicle)
    → hi < lo
    → IsSpan None (λ y. (x : ℕ) × IsWithin (Some r) x × IsStep t d vehicle i x j y)
after_none t d vehicle i j way lo hi r same least most empty = record {
  filled = tt;
  inside = λ y w. absurd w;
  all = λ y p. let x = p.0 in let w = p.1 in let s = p.2 in omega arith;
}
