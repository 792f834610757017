use Rattle.std.proofs.Common.{◌-◌, arith, sym}
use Rattle.std.proofs.lemmas.Grind.{common_steps}
use Rattle.move_core.proofs.Exchanged.{one_replaced}
use Rattle.move_core.proofs.parts.with_customer.Goals as goal

pub returns : goal.returns
returns c =
    let r = c.args.route.now in
    let low = c.requires.low in
    let high = c.requires.high in
    let e = sym (one_replaced r (c.args.place - 1) c.args.customer (omega arith)) in
    rw e (grind (arith, common_steps))
