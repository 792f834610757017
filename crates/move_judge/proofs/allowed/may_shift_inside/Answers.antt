use Rattle.std.proofs.Common.{arith, refl}
use Rattle.std.proofs.lemmas.Bool.{false≢true}
use Rattle.dimension_core.specs.Setup.{setting}
use Rattle.move_judge.proofs.Free.{shift_free}
use Rattle.move_judge.proofs.allowed.may_shift_inside.Goals as goal

pub returns-then-place-begin : goal.returns-then-place-begin
returns-then-place-begin g c = λ n can.
    let free = shift_free c.requires.laws (setting c.args.setup.now) c.args.view.now c.args.v c.args.place n c.args.at c.requires.view can in
    (λ never. absurd (false≢true never), λ a. let h = (free.0 a).0 in let e = c.first_free-begin.ensures.value in let t = c.if-place-begin.true in absurd (omega arith))

pub returns-then-at-begin : goal.returns-then-at-begin
returns-then-at-begin g c = λ n can.
    let free = shift_free c.requires.laws (setting c.args.setup.now) c.args.view.now c.args.v c.args.place n c.args.at c.requires.view can in
    (λ never. absurd (false≢true never), λ a. let h = (free.0 a).1 in let e = c.first_free-begin.ensures.value in let t = c.if-at-begin.true in absurd (omega arith))

pub returns : goal.returns
returns g c = λ n can.
    let free = shift_free c.requires.laws (setting c.args.setup.now) c.args.view.now c.args.v c.args.place n c.args.at c.requires.view can in (
      λ is.
          free.1 (
            let e = c.first_free-begin.ensures.value in let t = c.if-place-begin.false in omega arith,
            let e = c.first_free-begin.ensures.value in let t = c.if-at-begin.false in omega arith,
          ),
      λ a. refl,
    )
