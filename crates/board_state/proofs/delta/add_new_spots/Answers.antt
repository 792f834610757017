use Rattle.std.proofs.Common.{◌++◌, ◌+◌, ℕ, List, Option, drop, sym, ap, ◌∙◌}
use Rattle.board_state.specs.Deltas.{spots_behind}
use Rattle.board_state.proofs.Spots.{spots_kept, spots_pushed}
use Rattle.board_state.proofs.delta.add_new_spots.Goals.{then-not-stood_there+in_ok-push, else-not-stood_there}
use Rattle.board_state.proofs.delta.add_new_spots.Goals as goal

pub loop-index-preserved : goal.loop-index-preserved
loop-index-preserved c =
    let l = c.loop-index in
    let old = c.args.old.now in
    let new = c.args.new.now in
    let v = c.args.vehicle in
    let rest : List (ℕ × Option (ℕ × ℕ)) = spots_behind v (l.index + 1 + 1) old (drop (l.index + 1) new) in
    elim c.if-not-stood_there.branch [
      | then-not-stood_there+in_ok-push w ↦
          (ap (λ p. p.items ++ rest) w.places-is ∙ (ap (λ xs. xs ++ rest) w.in_ok-push.ensures.items
          ∙ (spots_pushed l.places.items v l.index old new c.loop-index-test.true (sym (c.stood_there.ensures v) ∙ w.if-not-stood_there.true) ∙ l.invariant)))
      | else-not-stood_there w ↦
          (ap (λ p. p.items ++ rest) w.places-is
          ∙ (spots_kept l.places.items v l.index old new c.loop-index-test.true (sym (c.stood_there.ensures v) ∙ w.if-not-stood_there.false) ∙ l.invariant))
    ]
