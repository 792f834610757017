use Rattle.std.proofs.Common.{◌<◌, arith, rules}
use Rattle.std.proofs.lemmas.Fmt.{decimal_digit}
use Rattle.board_lines.proofs.Starting.{pushed}
use Rattle.board_lines.proofs.digits.push_digit.Goals as goal

pub returns-clause-ok : goal.returns-clause-ok
returns-clause-ok c =
    let text = decimal_digit c.args.n c.requires in
    let small : c.from.result < 128 = omega arith in
    rw (text, ← c.from.ensures, ← c.push.ensures.ascii small) (search rules)

pub returns-clause-left : goal.returns-clause-left
returns-clause-left c = pushed _ _ _ _ _ c.push.ensures.bytes
