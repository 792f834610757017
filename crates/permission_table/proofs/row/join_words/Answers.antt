use Rattle.std.proofs.Common.{get_or, length-set, ap, ◌∙◌}
use Rattle.std.specs.Prelude.{bit_or, ⊤}
use Rattle.permission_table.proofs.WordLaws.{written_at, written_past, in_words, itself}
use Rattle.permission_table.proofs.row.join_words.Goals as goal

pub loop-place-preserved : goal.loop-place-preserved
loop-place-preserved c =
    let place = c.loop-place.place in
    let ws = c.loop-place.words in
    let old = c.args.words.now in
    let one = c.args.one.now in
    let other = c.args.other.now in
    let v = bit_or (bit_or (get_or ws place 0) (get_or one place 0)) (get_or other place 0) in
    let so_far = c.loop-place.invariant in record {
      before = λ k low. written_at (λ k. bit_or (bit_or (get_or old k 0) (get_or one k 0)) (get_or other k 0)) place v ws (λ k. ⊤) (in_words _ _ _ c.loop-place-test.true (itself 32) so_far.whole)
          (ap (λ n. bit_or (bit_or n (get_or one place 0)) (get_or other place 0)) (so_far.after place (itself place))) (λ k any below. so_far.before k below) k tt low;
      after = written_past (λ k. get_or old k 0) place v ws so_far.after;
      whole = length-set ws place v ∙ so_far.whole;
    }
