use Rattle.std.proofs.Common.{arith}
use Rattle.std.proofs.lemmas.Bool.{false≢true}
use Rattle.dimension_core.specs.Setup.{setting}
use Rattle.pin_core.specs.View.{pins_of}
use Rattle.move_judge.proofs.Between.{shift_between}
use Rattle.move_judge.proofs.Free.{between_free, none_loose}
use Rattle.move_judge.proofs.allowed.may_shift.Goals as goal

pub first_free-requires-clause-v : goal.first_free-requires-clause-v
first_free-requires-clause-v g c =
    let f = (c.requires.laws.possible.shift (setting c.args.setup.now).customers c.args.view.now.routes c.args.v c.args.moved.place c.args.moved.length c.args.w c.args.at).0 c.requires.possible in
    (f.onto.vehicle.low, f.onto.vehicle.high)

pub may_leave-requires-clause-v : goal.may_leave-requires-clause-v
may_leave-requires-clause-v g c =
    let f = (c.requires.laws.possible.shift (setting c.args.setup.now).customers c.args.view.now.routes c.args.v c.args.moved.place c.args.moved.length c.args.w c.args.at).0 c.requires.possible in
    (f.from.vehicle.low, f.from.vehicle.high)

pub may_leave-requires-clause-low : goal.may_leave-requires-clause-low
may_leave-requires-clause-low g c =
    let f = (c.requires.laws.possible.shift (setting c.args.setup.now).customers c.args.view.now.routes c.args.v c.args.moved.place c.args.moved.length c.args.w c.args.at).0 c.requires.possible in
    f.from.low

pub may_leave-requires-clause-high : goal.may_leave-requires-clause-high
may_leave-requires-clause-high g c =
    let f = (c.requires.laws.possible.shift (setting c.args.setup.now).customers c.args.view.now.routes c.args.v c.args.moved.place c.args.moved.length c.args.w c.args.at).0 c.requires.possible in
    f.from.high

pub returns-then-at-first_free : goal.returns-then-at-first_free
returns-then-at-first_free g c =
    let law = c.requires.laws in
    let free = between_free law (setting c.args.setup.now) c.args.view.now _ _ _ _ _ _ _ _ _ c.requires.view c.requires.possible
    (shift_between law (setting c.args.setup.now).customers c.args.view.now.routes c.args.v c.args.moved.place c.args.moved.length c.args.w c.args.at c.requires.possible c.requires.apart) in
    (λ never. absurd (false≢true never), λ a. let h = (free.0 a).1 in let e = c.first_free.ensures.value in let t = c.if-at-first_free.true in absurd (omega arith))

pub returns : goal.returns
returns g c =
    let law = c.requires.laws in
    let free = between_free law (setting c.args.setup.now) c.args.view.now _ _ _ _ _ _ _ _ _ c.requires.view c.requires.possible
    (shift_between law (setting c.args.setup.now).customers c.args.view.now.routes c.args.v c.args.moved.place c.args.moved.length c.args.w c.args.at c.requires.possible c.requires.apart) in (
      λ is.
          let may = c.may_leave.ensures.0 is in
          free.1 (may.0, let e = c.first_free.ensures.value in let t = c.if-at-first_free.false in omega arith, may.1, none_loose (pins_of c.args.view.now)),
      λ a. let h = free.0 a in c.may_leave.ensures.1 (h.0, h.2),
    )
