use Rattle.std.proofs.lemmas.Bool.{false≢true}
use Rattle.std.proofs.Common.{sym, ◌∙◌}
use Rattle.dimension_core.specs.Setup.{setting}
use Rattle.move_judge.proofs.Between.{cross_between}
use Rattle.move_judge.proofs.Free.{between_free}
use Rattle.move_judge.proofs.allowed.may_cross.Goals as goal

pub may_part-requires-clause-v : goal.may_part-requires-clause-v
may_part-requires-clause-v g c =
    let f = (c.requires.laws.possible.cross (setting c.args.setup.now).customers c.args.view.now.routes c.args.v c.args.keep c.args.w c.args.keep_other).0 c.requires.possible in
    (f.vehicle.low, f.vehicle.high)

pub may_part-requires-clause-keep : goal.may_part-requires-clause-keep
may_part-requires-clause-keep g c =
    let f = (c.requires.laws.possible.cross (setting c.args.setup.now).customers c.args.view.now.routes c.args.v c.args.keep c.args.w c.args.keep_other).0 c.requires.possible in
    f.kept

pub may_part-requires-2-clause-v : goal.may_part-requires-2-clause-v
may_part-requires-2-clause-v g c =
    let f = (c.requires.laws.possible.cross (setting c.args.setup.now).customers c.args.view.now.routes c.args.v c.args.keep c.args.w c.args.keep_other).0 c.requires.possible in
    (f.other.low, f.other.high)

pub may_part-requires-2-clause-keep : goal.may_part-requires-2-clause-keep
may_part-requires-2-clause-keep g c =
    let f = (c.requires.laws.possible.cross (setting c.args.setup.now).customers c.args.view.now.routes c.args.v c.args.keep c.args.w c.args.keep_other).0 c.requires.possible in
    f.kept_other

pub returns-then-not-may_part : goal.returns-then-not-may_part
returns-then-not-may_part g c =
    let law = c.requires.laws in
    let free = between_free law (setting c.args.setup.now) c.args.view.now _ _ _ _ _ _ _ _ _ c.requires.view c.requires.possible
    (cross_between law (setting c.args.setup.now).customers c.args.view.now.routes c.args.v c.args.keep c.args.w c.args.keep_other c.requires.possible) in
    (λ never. absurd (false≢true never), λ a. let h = free.0 a in absurd (false≢true (sym c.if-not-may_part.true ∙ c.may_part.ensures.1 (h.0, h.2))))

pub returns : goal.returns
returns g c =
    let law = c.requires.laws in
    let free = between_free law (setting c.args.setup.now) c.args.view.now _ _ _ _ _ _ _ _ _ c.requires.view c.requires.possible
    (cross_between law (setting c.args.setup.now).customers c.args.view.now.routes c.args.v c.args.keep c.args.w c.args.keep_other c.requires.possible) in (
      λ is.
          let here = c.may_part.ensures.0 c.if-not-may_part.false in
          let there = c.may_part-2.ensures.0 is in
          free.1 (here.0, there.0, here.1, there.1),
      λ a. let h = free.0 a in c.may_part-2.ensures.1 (h.1, h.3),
    )
