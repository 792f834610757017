-- The search for the last listing goes on by one line.
use Rattle.std.proofs.Common.{◌≡◌, ◌≢◌, ◌∙◌, ℕ, ◌+◌, ◌-◌, ◌<◌, ◌≤◌, List, length, Option, Some, None, ⊎_elim, sym, subst, arith}
use Rattle.std.proofs.lemmas.Bool.{cases_lt}
use Rattle.plan_sums.specs.declared.lines.Kind.{Kind}
use Rattle.plan_sums.specs.declared.lines.Kind.TheVariants as kinds
use Rattle.plan_sums.specs.declared.finding.Span.{Span}
use Rattle.plan_sums.specs.declared.finding.Search.{Search}
use Rattle.plan_sums.specs.Lines.{IsListing, IsFound, kind_at}
use Rattle.plan_sums.specs.Progress.{IsFoundBefore, IsSearched}

-- no listing ends at a place: the last listing so far stays
found_more : (lines : List (List ℕ)) (k : ℕ) (found : Option Span) → ((first : ℕ) → IsListing lines first k → ⊥) → IsFoundBefore lines k found → IsFoundBefore lines (k + 1) found
found_more lines k None none h = λ first end lt l.
    ⊎_elim (λ less. h first end less l) (λ more. none first (subst (λ (e : ℕ). IsListing lines first e) (omega arith) l)) (cases_lt end k)
found_more lines k (Some span) none h = (
  omega (arith, h.0),
  h.1,
  λ first end lt l. ⊎_elim (λ less. h.2 first end less l) (λ more. absurd (none first (subst (λ (e : ℕ). IsListing lines first e) (omega arith) l))) (cases_lt end k),
)

no_end : (lines : List (List ℕ)) (k : ℕ) (kind : Kind) → kind ≡ kind_at lines k → kind ≢ kinds.End → (first : ℕ) → IsListing lines first k → ⊥
no_end lines k kind e other first l = other (e ∙ l.ended)

-- a row
pub row_more : (lines : List (List ℕ)) (k : ℕ) (kind : Kind) (search : Search) → kind ≡ kinds.Row → IsSearched lines k search → kind ≡ kind_at lines k → IsSearched lines (k + 1) search
row_more lines k kind search is h e = record {
  start = omega (arith, h.start);
  rows = λ j low lt. ⊎_elim (λ less. h.rows j low less) (λ more. subst (λ (x : ℕ). kind_at lines x ≡ kinds.Row) (omega arith) (sym e ∙ is)) (cases_lt j k);
  whole = h.whole;
  found = found_more lines k search.found (no_end lines k kind e (λ w. cc)) h.found;
}

-- neither a row nor an end, or an end with no row before it
apart : (lines : List (List ℕ)) (k : ℕ) (kind : Kind) (search : Search) → kind ≢ kinds.Row → IsSearched lines k search → kind ≡ kind_at lines k → ((first : ℕ) → IsListing lines first k → ⊥) → IsSearched lines (k + 1) (record { first = k + 1; found = search.found })
apart lines k kind search other h e none = record {
  start = omega arith;
  rows = λ j low lt. absurd (omega arith);
  whole = λ j here row. other (e ∙ subst (λ (x : ℕ). kind_at lines x ≡ kinds.Row) (omega arith) row);
  found = found_more lines k search.found none h.found;
}

pub other_more : (lines : List (List ℕ)) (k : ℕ) (kind : Kind) (search : Search) → kind ≡ kinds.Other → IsSearched lines k search → kind ≡ kind_at lines k → IsSearched lines (k + 1) (record { first = k + 1; found = search.found })
other_more lines k kind search is h e = apart lines k kind search (λ w. cc) h e (no_end lines k kind e (λ w. cc))

-- the row before an end that has no row before it
no_row : (lines : List (List ℕ)) (k : ℕ) (search : Search) → k ≤ search.first → IsSearched lines k search → (first : ℕ) → IsListing lines first k → ⊥
no_row lines k search late h first l =
    let low : first ≤ k - 1 = omega (arith, l.some) in
    let high : k - 1 < k = omega (arith, l.some) in
    h.whole (k - 1) (omega (arith, h.start, late, l.some)) (l.rows (k - 1) low high)

pub bare_end : (lines : List (List ℕ)) (k : ℕ) (kind : Kind) (search : Search) → kind ≡ kinds.End → k ≤ search.first → IsSearched lines k search → kind ≡ kind_at lines k → IsSearched lines (k + 1) (record { first = k + 1; found = search.found })
bare_end lines k kind search is late h e = apart lines k kind search (λ w. cc) h e (no_row lines k search late h)

-- an end of a listing
pub full_end : (lines : List (List ℕ)) (k : ℕ) (kind : Kind) (search : Search) → k < length lines → kind ≡ kinds.End → search.first < k → IsSearched lines k search → kind ≡ kind_at lines k → IsSearched lines (k + 1) (record { first = k + 1; found = Some (record { first = search.first; end = k }) })
full_end lines k kind search within is some h e = record {
  start = omega arith;
  rows = λ j low lt. absurd (omega arith);
  whole = λ j here row. let other : kinds.End ≡ kinds.Row = sym is ∙ (e ∙ subst (λ (x : ℕ). kind_at lines x ≡ kinds.Row) (omega arith) row) in cc;
  found = (omega arith, record { some = some; within = within; rows = h.rows; ended = sym e ∙ is; whole = h.whole }, λ first end lt l. omega arith);
}

-- all lines were searched
pub searched : (lines : List (List ℕ)) (n : ℕ) (found : Option Span) → length lines ≤ n → IsFoundBefore lines n found → IsFound lines found
searched lines n None all h = λ first end l. h first end (omega (arith, l.within, all)) l
searched lines n (Some span) all h = record { listing = h.1; last = λ first end l. h.2 first end (omega (arith, l.within, all)) l }
