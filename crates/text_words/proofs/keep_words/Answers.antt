use Rattle.std.proofs.Common.{◌++◌, ◌+◌, ◌-◌, List, ℕ, map, drop, take, length, arith, refl, ap, sym, ◌∙◌}
use Rattle.std.proofs.lemmas.List.{length-append, length-map}
use Rattle.std.proofs.lemmas.Result.{err_from_is_err_and}
use Rattle.text_words.specs.Words.{words}
use Rattle.text_words.proofs.Parts.{no_word, next_word, kept_more, first_of_most}
use Rattle.text_words.proofs.keep_words.Goals as goal
use Rattle.text_words.proofs.keep_words.Goals.{then-start-end+in_ok-push, else-start-end}

pub loop-start-preserved : goal.loop-start-preserved
loop-start-preserved c =
    let line = c.args.line.now in
    let from = c.loop-start.start in
    let end = c.part_end-end.result in
    let e = c.part_end-end.ensures in
    let before = c.loop-start.invariant in
    elim c.if-start-end.branch [
      | then-start-end+in_ok-push w ↦
          let word = next_word line from end w.if-start-end.true e.within e.plain e.gap in
          let more = w.in_ok-push.ensures.items in
          rw w.kept-is (record {
            found = kept_more c.loop-start.kept.items w.push.new.self.items _ (take (end - from) (drop from line)) (words (drop from line)) (words (drop (end + 1) line)) (words line) more refl word before.found;
            few = omega (arith, ap length more, length-append c.loop-start.kept.items, c.len.ensures, c.if-len-most.true);
          })
      | else-start-end w ↦
          let none = no_word line from end (omega arith) e.within e.plain e.gap in
          rw w.kept-is (record {
            found = ap (λ (l : List (List ℕ)). map (λ w. w.now) c.loop-start.kept.items ++ l) (sym none) ∙ before.found;
            few = before.few;
          })
    ]

pub returns-in_err-push-clause-left : goal.returns-in_err-push-clause-left
returns-in_err-push-clause-left c =
    let line = c.args.line.now in
    let before = c.loop-start.invariant in
    let p = err_from_is_err_and c.from_residual.result c.from_residual.ensures.1 in
    rw (p.1, c.in_err-push.ensures.items) (first_of_most c.args.most (map (λ w. w.now) c.loop-start.kept.items) (words (drop c.loop-start.start line)) (words line) before.found (omega (arith, length-map c.loop-start.kept.items (λ w. w.now), before.few)))
