use Rattle.std.proofs.Common.{◌≡◌, ℕ, Bool, true, false, Some, filter, take, get_or, sym, ap, ◌∙◌, ◌++◌, ◌∷◌, []}
use Rattle.std.specs.Prelude.{slice_get}
use Rattle.std.proofs.lemmas.List.{append-nil, take_all}
use Rattle.std.proofs.lemmas.Option.{slice_get-get_or}
use Rattle.rbac_core.specs.Affected.{has_lost}
use Rattle.rbac_core.proofs.AffectedLaws.{filter_next}
use Rattle.rbac_core.proofs.effects.lost_among.Goals.{then-has_lost+in_ok-push, else-has_lost}
use Rattle.rbac_core.proofs.effects.lost_among.Goals as goal

pub loop-session-preserved : goal.loop-session-preserved
loop-session-preserved c =
    let keep : ℕ → Bool = has_lost c.args.old.now c.args.new.now in
    let i = c.loop-session.session-index in
    let n = get_or c.args.all.now i 0 in
    let here : slice_get c.args.all.now i ≡ Some n = slice_get-get_or c.args.all.now i 0 c.loop-session-test.true in
    elim c.if-has_lost.branch [
      | then-has_lost+in_ok-push w ↦
          (ap (λ v. v.items) w.sessions-is ∙ w.in_ok-push.ensures.items ∙ ap (λ xs. xs ++ n ∷ []) c.loop-session.invariant
          ∙ filter_next keep c.args.all.now i n true here (sym c.has_lost.ensures ∙ w.if-has_lost.true))
      | else-has_lost w ↦
          (ap (λ v. v.items) w.sessions-is ∙ c.loop-session.invariant ∙ sym (append-nil (filter keep (take i c.args.all.now)))
          ∙ filter_next keep c.args.all.now i n false here (sym c.has_lost.ensures ∙ w.if-has_lost.false))
    ]

pub returns : goal.returns
returns c = c.loop-session.invariant ∙ ap (filter (has_lost c.args.old.now c.args.new.now)) (take_all c.loop-session.session-index c.args.all.now c.loop-session-test.false)
