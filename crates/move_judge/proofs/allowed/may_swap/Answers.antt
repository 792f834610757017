use Rattle.std.proofs.Common.{arith, sym, ◌∙◌}
use Rattle.std.proofs.lemmas.Bool.{false≢true}
use Rattle.dimension_core.specs.Setup.{setting}
use Rattle.move_judge.proofs.Between.{swap_between}
use Rattle.move_judge.proofs.Free.{between_free}
use Rattle.move_judge.proofs.allowed.may_swap.Goals as goal

pub may_leave-requires-clause-v : goal.may_leave-requires-clause-v
may_leave-requires-clause-v g c =
    let f = (c.requires.laws.possible.swap (setting c.args.setup.now).customers c.args.view.now.routes c.args.v c.args.place c.args.w c.args.at).0 c.requires.possible in
    (f.vehicle.low, f.vehicle.high)

pub may_leave-requires-clause-low : goal.may_leave-requires-clause-low
may_leave-requires-clause-low g c =
    let f = (c.requires.laws.possible.swap (setting c.args.setup.now).customers c.args.view.now.routes c.args.v c.args.place c.args.w c.args.at).0 c.requires.possible in
    f.place.low

pub may_leave-requires-clause-high : goal.may_leave-requires-clause-high
may_leave-requires-clause-high g c =
    let f = (c.requires.laws.possible.swap (setting c.args.setup.now).customers c.args.view.now.routes c.args.v c.args.place c.args.w c.args.at).0 c.requires.possible in
    let high = f.place.high in
    omega arith

pub may_leave-requires-2-clause-v : goal.may_leave-requires-2-clause-v
may_leave-requires-2-clause-v g c =
    let f = (c.requires.laws.possible.swap (setting c.args.setup.now).customers c.args.view.now.routes c.args.v c.args.place c.args.w c.args.at).0 c.requires.possible in
    (f.other.low, f.other.high)

pub may_leave-requires-2-clause-low : goal.may_leave-requires-2-clause-low
may_leave-requires-2-clause-low g c =
    let f = (c.requires.laws.possible.swap (setting c.args.setup.now).customers c.args.view.now.routes c.args.v c.args.place c.args.w c.args.at).0 c.requires.possible in
    f.at.low

pub may_leave-requires-2-clause-high : goal.may_leave-requires-2-clause-high
may_leave-requires-2-clause-high g c =
    let f = (c.requires.laws.possible.swap (setting c.args.setup.now).customers c.args.view.now.routes c.args.v c.args.place c.args.w c.args.at).0 c.requires.possible in
    let high = f.at.high in
    omega arith

pub returns-then-not-may_leave : goal.returns-then-not-may_leave
returns-then-not-may_leave g c =
    let law = c.requires.laws in
    let free = between_free law (setting c.args.setup.now) c.args.view.now _ _ _ _ _ _ _ _ _ c.requires.view c.requires.possible
    (swap_between law (setting c.args.setup.now).customers c.args.view.now.routes c.args.v c.args.place c.args.w c.args.at c.requires.possible c.requires.apart) in
    (λ never. absurd (false≢true never), λ a. let h = free.0 a in absurd (false≢true (sym c.if-not-may_leave.true ∙ c.may_leave.ensures.1 (h.0, h.2))))

pub returns : goal.returns
returns g c =
    let law = c.requires.laws in
    let free = between_free law (setting c.args.setup.now) c.args.view.now _ _ _ _ _ _ _ _ _ c.requires.view c.requires.possible
    (swap_between law (setting c.args.setup.now).customers c.args.view.now.routes c.args.v c.args.place c.args.w c.args.at c.requires.possible c.requires.apart) in (
      λ is.
          let here = c.may_leave.ensures.0 c.if-not-may_leave.false in
          let there = c.may_leave-2.ensures.0 is in
          free.1 (here.0, there.0, here.1, there.1),
      λ a. let h = free.0 a in c.may_leave-2.ensures.1 (h.1, h.3),
    )
