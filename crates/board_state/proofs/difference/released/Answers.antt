use Rattle.std.proofs.Common.{◌++◌, ◌+◌, ℕ, List, Option, Some, true, false, get_or, drop, ap, ◌∙◌, arith}
use Rattle.std.proofs.lemmas.Option.{slice_get-get_or}
use Rattle.plan_core.specs.declared.touch.Touch.{Touch}
use Rattle.board_state.specs.Deltas.{released}
use Rattle.board_state.proofs.Releases.{marks_step}
use Rattle.board_state.proofs.difference.released.Goals.{then-mark+in_ok-push, else-mark}
use Rattle.board_state.proofs.difference.released.Goals as goal

pub loop-k-preserved : goal.loop-k-preserved
loop-k-preserved c =
    let l = c.loop-k in
    let ts = c.args.touched.now in
    let bs = c.args.freed.now in
    let d : Touch = record { vehicle = 0; place = 0; customer = 0 } in
    let rest : List (ℕ × Option ℕ) = released (drop (l.k + 1) ts) (drop (l.k + 1) bs) in
    let touch = slice_get-get_or ts l.k d (omega (arith, c.loop-k-test.true, c.requires)) in
    elim c.if-mark.branch [
      | then-mark+in_ok-push w ↦
          (ap (λ p. p.items ++ rest) w.pins-is ∙ (ap (λ xs. xs ++ rest) w.in_ok-push.ensures.items
          ∙ (marks_step l.pins.items ts bs l.k (get_or ts l.k d) true touch (slice_get-get_or bs l.k _ c.loop-k-test.true ∙ ap Some w.if-mark.true) ∙ l.invariant)))
      | else-mark w ↦
          (ap (λ p. p.items ++ rest) w.pins-is
          ∙ (marks_step l.pins.items ts bs l.k (get_or ts l.k d) false touch (slice_get-get_or bs l.k _ c.loop-k-test.true ∙ ap Some w.if-mark.false) ∙ l.invariant))
    ]
