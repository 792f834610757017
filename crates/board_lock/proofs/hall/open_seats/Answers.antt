use Rattle.std.proofs.Common.{List, IfOk, Result, Ok, Err, ap, ◌∙◌}
use Rattle.board_rules.specs.declared.call.Entry.{Entry}
use Rattle.board_lock.specs.Watches.{watches}
use Rattle.board_lock.proofs.hall.open_seats.Goals as goal

ok_map : {A B : Type 0} (r : Result A B) (P Q : A → Type 0) → IfOk r P → ((x : A) → P x → Q x) → IfOk r Q
ok_map (Ok x) P Q p f = f x p
ok_map (Err e) P Q p f = tt

pub returns : goal.returns
returns g c =
    let journal = ap (λ (es : List Entry). watches es g.N.Naming.opening.desks) c.named-locked.ensures in
    ok_map c.hand_out.result _ _ c.hand_out.ensures (λ seats is. is ∙ (c.in_ok-readies.ensures ∙ journal))
