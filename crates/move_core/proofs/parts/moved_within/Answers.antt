use Rattle.std.proofs.Common.{◌+◌, ◌-◌, arith}
use Rattle.std.proofs.lemmas.Grind.{common_steps}
use Rattle.move_core.specs.Moves.{stretch}
use Rattle.move_core.proofs.Moved.{moved_front, moved_back}
use Rattle.move_core.proofs.parts.moved_within.Goals as goal

pub returns-then-to-first : goal.returns-then-to-first
returns-then-to-first c =
    let r = c.args.route.now in
    let high = c.requires.high in
    let low = c.requires.low in
    let e = moved_front r (stretch r c.args.place c.args.count) (c.args.at - 1) (c.args.place - 1) (c.args.place - 1 + c.args.count) c.if-to-first.true (omega arith) in
    rw e (grind (arith, common_steps))

pub returns : goal.returns
returns c =
    let r = c.args.route.now in
    let high = c.requires.at_high in
    let low = c.requires.at_low in
    let t = c.if-to-first.false in
    let e = moved_back r (stretch r c.args.place c.args.count) (c.args.at - 1) (c.args.place - 1) (c.args.place - 1 + c.args.count) c.args.count (omega arith) (omega arith) (omega arith) in
    rw e (grind (arith, common_steps))
