use Rattle.std.proofs.Common.{◌-◌, arith, sym}
use Rattle.std.proofs.lemmas.Grind.{common_steps}
use Rattle.move_core.specs.Moves.{customer_at}
use Rattle.move_core.proofs.Exchanged.{two_replaced}
use Rattle.move_core.proofs.parts.exchanged.Goals as goal

pub returns : goal.returns
returns c =
    let r = c.args.route.now in
    let low = c.requires.low in
    let order = c.requires.order in
    let high = c.requires.high in
    let e = sym (two_replaced r (c.args.place - 1) (c.args.at - 1) (customer_at r c.args.at) (customer_at r c.args.place) (omega arith) (omega arith)) in
    rw e (grind (arith, common_steps))
