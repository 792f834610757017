use Rattle.std.proofs.Common.{arith, inr, subst, sym, ap, ◌≡◌, ◌∙◌, Option, None, Result, Ok, Err, Vec, length, map, List, ℕ}
use Rattle.std.specs.Prelude.{IfOk}
use Rattle.plan_sums.specs.declared.row.Row.{Row}
use Rattle.plan_sums.specs.Places.{Places}
use Rattle.plan_sums.specs.Reading.{AreLastRows, AreRowsAt}
use Rattle.std.proofs.lemmas.List.{length-map}
use Rattle.solomon_reader.specs.Cuts.{lines}
use Rattle.plan_sums.specs.declared.finding.Span.{Span}
use Rattle.plan_sums.specs.Lines.{IsFound, IsLastListing}
use Rattle.plan_sums.proofs.reading.read_rows.Goals as goal

-- the rows of the last listing
last_rows : {A E : Type 0} (p : Places) (text : List ℕ) (ls : List (List ℕ)) (span : Span) (r : Result (Vec Row A) E) → ls ≡ lines text → IsLastListing ls span
    → IfOk r (λ rows. AreRowsAt p ls span rows.items) → IfOk r (λ rows. AreLastRows p text rows.items)
last_rows p text ls span (Ok v) e h at =
    (span, subst (λ (l : List (List ℕ)). IsLastListing l span) e h, subst (λ (l : List (List ℕ)). AreRowsAt p l span v.items) e at)
last_rows p text ls span (Err x) e h at = at

pub returns-in-Some-clause-ok : goal.returns-in-Some-clause-ok
returns-in-Some-clause-ok c =
    let ls = map (λ w. w.now) c.as_slice-in-Some.result.now in
    let span = c.in-Some.span in
    let found = subst (λ (o : Option Span). IsFound (map (λ w. w.now) c.as_slice.result.now) o) c.in-Some.is c.in_ok-span.ensures in
    let same : map (λ w. w.now) c.as_slice.result.now ≡ ls = ap (map (λ w. w.now)) (c.as_slice.ensures.value ∙ sym c.as_slice-in-Some.ensures.value) in
    last_rows c.args.roads.now c.args.text.now ls span c.rows_of.result
    (ap (map (λ w. w.now)) c.as_slice-in-Some.ensures.value ∙ c.in_ok-lines.ensures)
    (subst (λ (l : List (List ℕ)). IsLastListing l span) same found) c.rows_of.ensures.ok

pub returns-in-Some-clause-rows : goal.returns-in-Some-clause-rows
returns-in-Some-clause-rows c = c.rows_of.ensures.rows

pub returns-clause-err : goal.returns-clause-err
returns-clause-err c =
    let same : map (λ w. w.now) c.as_slice.result.now ≡ lines c.args.text.now = ap (map (λ w. w.now)) c.as_slice.ensures.value ∙ c.in_ok-lines.ensures in
    inr (record {
      none = subst (λ (ls : List (List ℕ)). IsFound ls None) same (subst (λ (o : Option Span). IsFound (map (λ w. w.now) c.as_slice.result.now) o) c.in-None.is c.in_ok-span.ensures);
      here = omega (arith, c.len.ensures, ap (length {A = List ℕ}) c.in_ok-lines.ensures, length-map c.in_ok-lines.lines.items (λ w. w.now));
    })
