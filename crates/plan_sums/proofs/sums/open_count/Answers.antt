use Rattle.std.proofs.Common.{◌≡◌, ◌∙◌, ◌∷◌, ◌+◌, Bool, true, not, List, length, filter, drop, get_or, ap, sym, arith}
use Rattle.std.proofs.lemmas.List.{at_drop_more, drop_all}
use Rattle.plan_sums.specs.declared.row.Row.{Row}
use Rattle.plan_sums.specs.Rows.{is_planned}
use Rattle.plan_sums.specs.Texts.{open_count}
use Rattle.plan_sums.proofs.sums.open_count.Goals as goal

kept : (p : Row → Bool) (row : Row) (rows : List Row) → p row ≡ true → length (filter p (row ∷ rows)) ≡ length (filter p rows) + 1
kept p row rows h = rw h (omega arith)

pub loop-row-preserved : goal.loop-row-preserved
loop-row-preserved c =
    let rows = c.args.rows.now in
    let k = c.loop-row.row-index in
    let one : open_count (drop k rows) ≡ open_count (drop (k + 1) rows) + 1 =
    at_drop_more open_count rows k _ c.loop-row-test.true ∙ kept (λ row. not (is_planned row)) (get_or rows k _) (drop (k + 1) rows)
    (sym (ap not c.if-is_planned.ensures)) in
    record {
      counted = omega (arith, one, c.loop-row.invariant.counted);
      few = omega (arith, c.loop-row.invariant.few);
    }

pub returns : goal.returns
returns c =
    let none : open_count (drop c.loop-row.row-index c.args.rows.now) ≡ 0 = ap open_count (drop_all c.loop-row.row-index c.args.rows.now c.loop-row-test.false) in
    record {
      value = omega (arith, none, c.loop-row.invariant.counted);
      within = omega (arith, c.loop-row.invariant.few, c.loop-row.auto.row-index-end);
    }
