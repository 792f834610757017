use Rattle.std.proofs.Common.{arith, map, refl}
use Rattle.std.proofs.lemmas.List.{length-map}
use Rattle.plan_sums.proofs.Taking.{five_words, four_words, six_words}
use Rattle.plan_sums.proofs.reading.row_of_words.Goals as goal

pub returns-in_default-2 : goal.returns-in_default-2
returns-in_default-2 c =
    five_words (map (λ w. w.now) c.args.words.now) (omega (arith, length-map c.args.words.now (λ w. w.now), c.in_default.len_at_least)) (omega (arith, length-map c.args.words.now (λ w. w.now), c.in_default.len_below))

pub returns-in-len4 : goal.returns-in-len4
returns-in-len4 c =
    four_words c.args.words.now _ _ _ _ c.lone_row.result c.in-len4.len_at_least c.in-len4.len_below refl refl refl c.lone_row.ensures

pub returns-in-len6 : goal.returns-in-len6
returns-in-len6 c =
    six_words c.args.words.now _ _ _ _ _ _ c.planned_row.result c.in-len6.len_at_least c.in-len6.len_below refl refl refl refl refl
    c.planned_row.ensures
