use Rattle.std.proofs.Common.{◌≤◌, get_or, length-set, ap, ◌∙◌}
use Rattle.std.specs.Prelude.{bit_or}
use Rattle.permission_table.proofs.WordLaws.{written_at, written_past, written_below, in_words, itself, one_up, next_within}
use Rattle.permission_table.proofs.row.add_words.Goals as goal

pub loop-place-preserved : goal.loop-place-preserved
loop-place-preserved c =
    let place = c.loop-place.place in
    let ws = c.loop-place.words in
    let old = c.args.words.now in
    let v = bit_or (get_or ws place 0) (get_or c.args.other.now place 0) in
    let so_far = c.loop-place.invariant in record {
      order = one_up _ _ so_far.order;
      within = next_within _ _ c.loop-place-test.true;
      inside = written_at (λ k. bit_or (get_or old k 0) (get_or c.args.other.now k 0)) place v ws (λ k. c.args.places.0 ≤ k) (in_words _ _ _ c.loop-place-test.true c.requires.small so_far.whole) (ap (λ n. bit_or n (get_or c.args.other.now place 0)) (so_far.above place (itself place))) so_far.inside;
      below = written_below (λ k. get_or old k 0) place v ws c.args.places.0 so_far.order so_far.below;
      above = written_past (λ k. get_or old k 0) place v ws so_far.above;
      whole = length-set ws place v ∙ so_far.whole;
    }
