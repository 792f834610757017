use Rattle.std.proofs.Common.{◌∙◌, inl, inr, length, arith}
use Rattle.std.proofs.lemmas.Bool.{cases_lt}
use Rattle.permission_table.proofs.reaching.Reaching.reserve.Goals as goal

pub loop-self-preserved : goal.loop-self-preserved
loop-self-preserved c =
    let so_far = c.loop-self.invariant in
    let more = c.add_block.ensures in record {
      longer = omega (arith, so_far.longer, more.longer);
      same = λ role place small within. more.same role place small (omega (arith, within, so_far.longer)) ∙ so_far.same role place small within;
      new = λ role place small above within. elim (cases_lt place (length c.loop-self.self)) [
        | inl old ↦ more.same role place small old ∙ so_far.new role place small above old
        | inr past ↦ more.new role place small past within
      ];
    }
