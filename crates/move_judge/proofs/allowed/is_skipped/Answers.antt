use Rattle.std.proofs.Common.{◌≡◌, ◌∙◌, sym, arith, length}
use Rattle.std.proofs.lemmas.Bool.{eqb-true, false≢true}
use Rattle.move_judge.proofs.allowed.is_skipped.Goals as goal

pub returns-then-is_empty : goal.returns-then-is_empty
returns-then-is_empty c =
    let none : length c.args.skip.now ≡ 0 = eqb-true (length c.args.skip.now) 0 (sym c.is_empty.ensures ∙ c.if-is_empty.true) in
    (λ never. absurd (false≢true never), λ inside. let h = inside.1 in absurd (omega arith))
