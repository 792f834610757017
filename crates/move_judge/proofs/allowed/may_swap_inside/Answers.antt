use Rattle.std.proofs.Common.{arith, refl}
use Rattle.std.proofs.lemmas.Bool.{false≢true}
use Rattle.dimension_core.specs.Setup.{setting}
use Rattle.move_judge.proofs.Inside.{swap_inside}
use Rattle.move_judge.proofs.Free.{inside_free}
use Rattle.move_judge.proofs.allowed.may_swap_inside.Goals as goal

pub returns-then-place-first_free : goal.returns-then-place-first_free
returns-then-place-first_free g c = λ at order can.
    let law = c.requires.laws in
    let free = inside_free law (setting c.args.setup.now) c.args.view.now _ _ _ _ c.requires.view can
    (swap_inside law (setting c.args.setup.now).customers c.args.view.now.routes c.args.v c.args.place at can order) in
    (λ never. absurd (false≢true never), λ a. let h = free.0 a in let e = c.first_free.ensures.value in let t = c.if-place-first_free.true in absurd (omega arith))

pub returns : goal.returns
returns g c = λ at order can.
    let law = c.requires.laws in
    let free = inside_free law (setting c.args.setup.now) c.args.view.now _ _ _ _ c.requires.view can
    (swap_inside law (setting c.args.setup.now).customers c.args.view.now.routes c.args.v c.args.place at can order) in
    (λ is. free.1 (let e = c.first_free.ensures.value in let t = c.if-place-first_free.false in omega arith), λ a. refl)
