-- How a row is joined of the first ranges of the old one and those of the fresh one, dimension by dimension.
use Rattle.std.proofs.Common.{◌≡◌, ◌∙◌, ℕ, ◌+◌, ◌-◌, ◌*◌, ◌<◌, ◌≤◌, ap, sym, subst, arith, List, ◌++◌, append_assoc, length, take, drop, length-append}
use Rattle.std.specs.Prelude.{slice_index_or}
use Rattle.std.proofs.lemmas.List.{get_or_append_left, get_or-append_right}
use Rattle.dimension_core.specs.declared.range.Range.{Range}
use Rattle.dimension_core.specs.Cumuls.{Bounds}
use Rattle.dimension_core.specs.Spans.{no_range}
use Rattle.range_cache.specs.Cache.{RowState, range_at}
use Rattle.range_cache.specs.Parts.{IsJoin}
use Rattle.range_cache.proofs.Changing.{all_places}
use Rattle.range_cache.proofs.Rows.{AreFilled, filled_more, part_long, part_at, room_for}

-- the range is that of the old row up to the front, and that of the fresh one after it
abbrev pub IsPart : ℕ → RowState → RowState → ℕ → ℕ → Range → Type 0
IsPart front old fresh d k r = (k < front → r ≡ range_at old d k) × (front ≤ k → r ≡ range_at fresh d (k - front))

module _ (n count front : ℕ) (old fresh : RowState) (few : front ≤ old.stops) (sized : length old.ranges ≡ count * old.stops) (sized_fresh : length fresh.ranges ≡ count * fresh.stops)
    (h : n < count) (xs ys : List Range) (first : xs ≡ take front (drop (n * old.stops) old.ranges)) (last : ys ≡ take fresh.stops (drop (n * fresh.stops) fresh.ranges)) where
  first_long : length xs ≡ front
  first_long = part_long old count n front xs few sized h first

  last_long : length ys ≡ fresh.stops
  last_long = part_long fresh count n fresh.stops ys (omega arith) sized_fresh h last

  both_at : (k : ℕ) → k < front + fresh.stops → IsPart front old fresh n k (slice_index_or (xs ++ ys) k no_range)
  both_at k l =
      let long = first_long in (
        (λ low. get_or_append_left xs ys no_range k (omega (arith, long, low)) ∙ part_at old n front k xs first low),
        (λ high. get_or-append_right xs ys front k no_range long high ∙ part_at fresh n fresh.stops (k - front) ys last (omega (arith, high, l))),
      )

  -- the ranges of one more dimension
  pub join_more : (ranges half whole : List Range) → AreFilled (IsPart front old fresh) (front + fresh.stops) n ranges → half ≡ ranges ++ xs → whole ≡ half ++ ys
      → AreFilled (IsPart front old fresh) (front + fresh.stops) (n + 1) whole
  join_more ranges half whole filled e f =
      let e_long = first_long in
      let f_long = last_long in
      let long = length-append xs ys in
      subst (λ (zs : List Range). AreFilled (IsPart front old fresh) (front + fresh.stops) (n + 1) zs)
      (sym (f ∙ ap (λ (zs : List Range). zs ++ ys) e ∙ append_assoc ranges xs ys))
      (filled_more (IsPart front old fresh) (front + fresh.stops) n ranges (xs ++ ys) filled (omega (arith, e_long, f_long, long)) both_at)

-- there is still room for all ranges
pub room_still : (needed a b c : ℕ) → needed ≤ a → a ≤ b → b ≤ c → needed ≤ c
room_still needed a b c enough more most = omega arith

-- and for those of one more dimension, one part after the other
pub first_fits : (count n room front rest used one : ℕ) → n < count → used ≡ n * (front + rest) → count * (front + rest) ≤ room → one ≡ front → used + one ≤ room
first_fits count n room front rest used one h is enough long =
    let all = room_for count n room (front + rest) h used is enough in omega (arith, all, long)

pub last_fits : (count n room front rest used one half two more : ℕ) → n < count → used ≡ n * (front + rest) → count * (front + rest) ≤ room → one ≡ front → half ≡ used + one → two ≡ rest
    → room ≤ more → half + two ≤ more
last_fits count n room front rest used one half two more h is enough long joined last grown =
    let all = room_for count n room (front + rest) h used is enough in omega (arith, all, long, joined, last, grown)

-- a row in which all dimensions are joined
pub all_joined : (front : ℕ) (old fresh row : RowState) (d : ℕ) (xs ys : List Bounds) → xs ≡ ys → length xs ≤ d → d ≤ length xs → row.stops ≡ front + fresh.stops
    → AreFilled (IsPart front old fresh) (front + fresh.stops) d row.ranges → IsJoin (length ys) front old fresh row
all_joined front old fresh row d xs ys is last first counted filled =
    let all : d ≡ length ys = all_places d (length xs) (length ys) (ap length is) last first in
    let same : AreFilled (IsPart front old fresh) (front + fresh.stops) (length ys) row.ranges =
    subst (λ (n : ℕ). AreFilled (IsPart front old fresh) (front + fresh.stops) n row.ranges) all filled in
    let done : AreFilled (IsPart front old fresh) row.stops (length ys) row.ranges = subst (λ (n : ℕ). AreFilled (IsPart front old fresh) n (length ys) row.ranges) (sym counted) same in
    record {
      counted = counted;
      sized = done.sized;
      first = λ e k h l. (done.each e k h (omega (arith, counted, l))).0 l;
      after = λ e k h l.
          let back : front + k - front ≡ k = omega arith in
          (done.each e (front + k) h (omega (arith, counted, l))).1 (omega arith) ∙ ap (range_at fresh e) back;
    }
