use Rattle.std.proofs.Common.{arith}
use Rattle.travel_table.proofs.Squares.{small_square}
use Rattle.travel_table.proofs.travel.apart.Goals as goal

pub returns-clause-small : goal.returns-clause-small
returns-clause-small c =
    let a = c.args.a in
    let b = c.args.b in
    let x = small_square c.between-dx.result a.x b.x (cc) c.requires.from.x c.requires.to.x in
    let y = small_square c.between-dy.result a.y b.y (cc) c.requires.from.y c.requires.to.y in
    omega arith
