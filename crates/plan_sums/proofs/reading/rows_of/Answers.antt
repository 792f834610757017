use Rattle.std.proofs.Common.{arith, ap, subst, sym, [], Bool, List, ℕ, length, map}
use Rattle.std.proofs.lemmas.List.{get_or-map, length_push}
use Rattle.plan_sums.specs.declared.row.Row.{Row}
use Rattle.plan_sums.specs.Lines.{line_at}
use Rattle.plan_sums.specs.Progress.{IsLineTaken}
use Rattle.plan_sums.proofs.Taking.{bad_row, read_more}
use Rattle.plan_sums.proofs.reading.rows_of.Goals as goal

pub loop-k-preserved : goal.loop-k-preserved
loop-k-preserved c =
    let p = c.args.roads.now in
    let ls = map (λ w. w.now) c.args.lines.now in
    let old = c.loop-k.taken.rows.items in
    let new = c.take_line.new.taken.rows.items in
    let line = get_or-map (λ w. w.now) c.args.lines.now c.loop-k.k _ [] (omega (arith, c.loop-k-test.true, c.requires.within)) in
    let took = subst (λ (b : Bool). IsLineTaken p old new c.take_line.new.taken.seen.items (line_at ls c.loop-k.k) b) c.if-not-branch.false (subst (λ (l : List ℕ). IsLineTaken p old new c.take_line.new.taken.seen.items l c.in_ok-take_line.field-0) (sym line) c.in_ok-take_line.ensures) in
    record {
      taken = took.2.1;
      read = read_more ls c.args.span.first c.loop-k.k old new took.0 took.2.0 c.loop-k.invariant.counted took.1 c.loop-k.invariant.read;
      counted = omega (arith, ap (length {A = Row}) took.2.0, length_push old took.0, c.loop-k.invariant.counted);
    }

pub returns-then-not-branch-clause-err : goal.returns-then-not-branch-clause-err
returns-then-not-branch-clause-err c =
    let p = c.args.roads.now in
    let ls = map (λ w. w.now) c.args.lines.now in
    let old = c.loop-k.taken.rows.items in
    let seen = c.take_line.new.taken.seen.items in
    let new = c.take_line.new.taken.rows.items in
    let line = get_or-map (λ w. w.now) c.args.lines.now c.loop-k.k _ [] (omega (arith, c.loop-k-test.true, c.requires.within)) in
    bad_row p ls c.args.span c.loop-k.k old c.loop-k-test.true c.loop-k.invariant.counted c.loop-k.invariant.taken.fit
    c.loop-k.invariant.read
    (subst (λ (b : Bool). IsLineTaken p old new seen (line_at ls c.loop-k.k) b) c.if-not-branch.true
    (subst (λ (l : List ℕ). IsLineTaken p old new seen l c.in_ok-take_line.field-0) (sym line) c.in_ok-take_line.ensures))
