use Rattle.std.proofs.Common.{ap, sym, subst, ◌∙◌, ◌≡◌, Bool, List, ℕ, Option, Result, Ok, Err, Some, None, true, false, map}
use Rattle.std.specs.Prelude.{MatchOption, IfOk}
use Rattle.plan_sums.specs.declared.row.Row.{Row}
use Rattle.plan_sums.specs.Places.{Places}
use Rattle.plan_sums.specs.Progress.{IsLineTaken, IsTakenBy}
use Rattle.plan_sums.specs.Reading.{row_of, row_of_words}
use Rattle.plan_sums.specs.Rows.{fits}
use Rattle.plan_sums.proofs.reading.take_line.Goals as goal

-- a line that has a row, taken or not, and one that has none
line_taken : {E : Type 0} (p : Places) (old new : List Row) (seen : List Bool) (row : Row) (line : List ℕ) (r : Result Bool E) → row_of line ≡ Some row
    → IfOk r (IsTakenBy p old new seen row) → IfOk r (IsLineTaken p old new seen line)
line_taken p old new seen row line (Ok true) is h = (row, is, h)
line_taken p old new seen row line (Ok false) is h = subst (λ (o : Option Row). MatchOption o (Unit {0}) (λ row. fits p old row ≡ false))
    (sym is) h
line_taken p old new seen row line (Err e) is h = h

pub returns-in-Some : goal.returns-in-Some
returns-in-Some c =
    line_taken c.args.roads.now c.args.taken.now.rows.items c.take.new.self.rows.items c.take.new.self.seen.items c.in-Some.row
    c.args.line.now c.take.result
    (ap row_of_words (sym (ap (map (λ w. w.now)) c.as_slice.ensures.value ∙ c.in_ok-keep_all_words.ensures.words)) ∙ sym
    c.row_of_words.ensures ∙ c.in-Some.is) c.take.ensures

pub returns-in-None : goal.returns-in-None
returns-in-None c =
    let is : row_of c.args.line.now ≡ None = ap row_of_words (sym (ap (map (λ w. w.now)) c.as_slice.ensures.value ∙ c.in_ok-keep_all_words.ensures.words)) ∙ sym c.row_of_words.ensures ∙ c.in-None.is in
    subst (λ (o : Option Row). MatchOption o (Unit {0}) (λ row. fits c.args.roads.now c.args.taken.now.rows.items row ≡ false)) (sym is) tt
