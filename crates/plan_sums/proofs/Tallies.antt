-- Sums along the rows of a listing.
use Rattle.std.proofs.Common.{◌≡◌, ◌∙◌, ℕ, zero, suc, ◌+◌, ◌-◌, ◌≤◌, true, false, List, [], ◌∷◌, ◌++◌, refl, sym, ap, arith}
use Rattle.std.specs.List.{flat_map, range_with_len, sum_by}
use Rattle.std.proofs.lemmas.List.{append-nil, map-id}
use Rattle.std.proofs.lemmas.List.Concat.{flat_map-append}
use Rattle.std.proofs.lemmas.List.FromFn.{map-range_with_len_more}
use Rattle.std.proofs.lemmas.List.Sums.{sum_by_push}
use Rattle.plan_sums.specs.declared.row.Row.{Row}
use Rattle.plan_sums.specs.declared.tour.Tally.{Tally}
use Rattle.plan_sums.specs.declared.tour.Tour.{Tour}
use Rattle.plan_sums.specs.Places.{Places}
use Rattle.plan_sums.specs.Progress.{IsTallied}
use Rattle.plan_sums.specs.Tours.{first_of, ways, tours_before, ends_tour, tour_at, tour_of}
use Rattle.plan_sums.specs.Visits.{is_first, way_at}

-- one more number of a range
range_more : (a n j : ℕ) → a + n ≡ j → range_with_len a (n + 1) ≡ range_with_len a n ++ j ∷ []
range_more a n j e = sym (map-id (range_with_len a (n + 1))) ∙ map-range_with_len_more (λ k. k) a n j e ∙ ap (λ (l : List ℕ). l ++ j ∷ []) (map-id (range_with_len a n))

-- one more way
ways_more : (p : Places) (rows : List Row) (from k : ℕ) → from ≤ k → ways p rows from (k + 1) ≡ ways p rows from k + way_at p rows k
ways_more p rows from k h =
    let count : k + 1 - from ≡ (k - from) + 1 = omega arith in
    ap (λ (n : ℕ). sum_by (way_at p rows) (range_with_len from n)) count
    ∙ ap (sum_by (way_at p rows)) (range_more from (k - from) k (omega arith))
    ∙ sum_by_push (way_at p rows) (range_with_len from (k - from)) k

ways_none : (p : Places) (rows : List Row) (k : ℕ) → ways p rows k k ≡ 0
ways_none p rows k = let e : k - k ≡ 0 = omega arith in ap (λ (n : ℕ). sum_by (way_at p rows) (range_with_len k n)) e

first_is : (rows : List Row) (k : ℕ) → is_first rows k ≡ true → k ≡ first_of rows k
first_is rows zero h = refl
first_is rows (suc k) h = rw h refl

first_stays : (rows : List Row) (k n first : ℕ) → is_first rows n ≡ false → k + 1 ≡ n → first ≡ first_of rows k → first ≡ first_of rows n
first_stays rows k zero first h e is = absurd (omega arith)
first_stays rows k (suc n) first h e is = let same : k ≡ n = omega arith in is ∙ ap (first_of rows) same ∙ rw h refl

-- the first row of a vehicle
pub first_row : (p : Places) (rows : List Row) (k way : ℕ) → is_first rows k ≡ true → way ≡ way_at p rows k → way ≤ 141421342 → IsTallied p rows (k + 1) (record { first = k; ways = way })
first_row p rows k way is e small = record {
  start = omega arith;
  here = λ j e. omega arith;
  first = λ j here. let same : k ≡ j = omega arith in first_is rows k is ∙ ap (first_of rows) same;
  ways = let none = ways_none p rows k in let more = ways_more p rows k k (omega arith) in omega (arith, e, none, more);
  small = omega (arith, small);
}

-- one more row of it
pub next_row : (p : Places) (rows : List Row) (k way : ℕ) (tally : Tally) → is_first rows k ≡ false → IsTallied p rows k tally → way ≡ way_at p rows k → way ≤ 141421342 → IsTallied p rows (k + 1) (record { first = tally.first; ways = tally.ways + way })
next_row p rows zero way tally is h e small = cc
next_row p rows (suc k) way tally is h e small = record {
  start = omega (arith, h.start);
  here = λ j e. omega (arith, h.here k (omega arith));
  first = λ j here. let same : suc k ≡ j = omega arith in first_stays rows k (suc k) tally.first is (omega arith) (h.first k (omega arith)) ∙ ap (first_of rows) same;
  ways = ap (λ (n : ℕ). n + way) h.ways ∙ ap (λ (n : ℕ). ways p rows tally.first (suc k) + n) e ∙ sym (ways_more p rows tally.first (suc k) h.start);
  small = omega (arith, h.small, small);
}

-- the tours behind one more row
pub tours_more : (p : Places) (rows : List Row) (k : ℕ) → tours_before p rows (k + 1) ≡ tours_before p rows k ++ tour_at p rows k
tours_more p rows k =
    ap (flat_map (tour_at p rows)) (range_more 0 k k (omega arith))
    ∙ flat_map-append (tour_at p rows) (range_with_len 0 k) (k ∷ [])
    ∙ ap (λ (l : List Tour). tours_before p rows k ++ l) (append-nil (tour_at p rows k))

-- the row that was tallied is the last of its vehicle, or not
pub tour_here : (p : Places) (rows : List Row) (k first : ℕ) → first ≡ first_of rows k → ends_tour rows k ≡ true → tour_at p rows k ≡ tour_of p rows first k ∷ []
tour_here p rows k first e ends = rw ends (ap (λ (n : ℕ). tour_of p rows n k ∷ []) (sym e))

pub no_tour : (p : Places) (rows : List Row) (k : ℕ) → ends_tour rows k ≡ false → tour_at p rows k ≡ []
no_tour p rows k e = rw e refl
