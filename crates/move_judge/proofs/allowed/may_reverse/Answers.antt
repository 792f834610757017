use Rattle.std.proofs.Common.{arith, refl}
use Rattle.std.proofs.lemmas.Bool.{false≢true}
use Rattle.dimension_core.specs.Setup.{setting}
use Rattle.move_judge.proofs.Inside.{reverse_inside}
use Rattle.move_judge.proofs.Free.{inside_free}
use Rattle.move_judge.proofs.allowed.may_reverse.Goals as goal

pub returns-then-first-first_free : goal.returns-then-first-first_free
returns-then-first-first_free g c = λ last can.
    let law = c.requires.laws in
    let free = inside_free law (setting c.args.setup.now) c.args.view.now _ _ _ _ c.requires.view can
    (reverse_inside law (setting c.args.setup.now).customers c.args.view.now.routes c.args.v c.args.first last can) in
    (λ never. absurd (false≢true never), λ a. let h = free.0 a in let e = c.first_free.ensures.value in let t = c.if-first-first_free.true in absurd (omega arith))

pub returns : goal.returns
returns g c = λ last can.
    let law = c.requires.laws in
    let free = inside_free law (setting c.args.setup.now) c.args.view.now _ _ _ _ c.requires.view can
    (reverse_inside law (setting c.args.setup.now).customers c.args.view.now.routes c.args.v c.args.first last can) in
    (λ is. free.1 (let e = c.first_free.ensures.value in let t = c.if-first-first_free.false in omega arith), λ a. refl)
