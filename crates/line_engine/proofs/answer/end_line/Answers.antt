use Rattle.std.proofs.Common.{◌<◌, arith, rules}
use Rattle.line_engine.proofs.answer.end_line.Goals as goal

pub returns : goal.returns
returns c =
    let small : 10 < 128 = omega arith in
    rw (← c.push.ensures.ascii small) (search rules)
