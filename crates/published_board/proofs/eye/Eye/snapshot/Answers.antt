use Rattle.std.proofs.Common.{◌≡◌, Result, Ok, Err}
use Rattle.std.specs.Prelude.{OnOk}
use Rattle.published_board.proofs.eye.Eye.snapshot.Goals as goal

on_ok : {A B : Type 0} (r : Result A B) (P : Type 0) (x : A) → r ≡ Ok x → OnOk r P → P
on_ok (Ok y) P x e h = h
on_ok (Err y) P x e h = absurd (cc e)

pub returns-in-Ok-clause-view : goal.returns-in-Ok-clause-view
returns-in-Ok-clause-view g c =
    c.copy.ensures.view c.refresh.new.self.seen (on_ok c.refresh.result _ c.in-Ok.field-0 c.in-Ok.is c.refresh.ensures.ok)
