use Rattle.std.proofs.Common.{ℕ, List, sym, ap, ◌∙◌, arith, ◌++◌}
use Rattle.std.proofs.lemmas.Bool.{false≢true}
use Rattle.std.proofs.lemmas.List.{take_all}
use Rattle.policy_core.specs.Wider.{all_wider, wider, held_in}
use Rattle.policy_core.proofs.WiderLaws.{all_wider-next}
use Rattle.policy_core.proofs.roles.wider_users.Goals.{in-Some+in_ok-push_wider, in_default}
use Rattle.policy_core.proofs.roles.wider_users.Goals as goal

pub loop-place-preserved : goal.loop-place-preserved
loop-place-preserved c = elim c.match-get_index.branch [
  | in-Some+in_ok-push_wider w ↦
      (let order = c.args.order.now in
      let entry : List ℕ × ℕ = (w.in-Some.field-0-0.now, w.in-Some.roles.now) in
      ap (λ v. v.items) w.all-is ∙ w.in_ok-push_wider.ensures c.args.above c.args.below c.seniors-seniors.ensures c.juniors-juniors.ensures.value ∙ ap (λ xs. xs ++ wider order c.args.above c.args.below (held_in entry)) c.loop-place.invariant
      ∙ all_wider-next order c.args.above c.args.below held_in c.args.users.now.entries c.loop-place.place entry (sym w.in-Some.ensures.entry))
  | in_default w ↦ absurd (false≢true (w.in_default.ensures.found.1 (omega (arith, c.len-place-end.ensures.len))))
]

pub returns : goal.returns
returns c =
    c.loop-place.invariant
    ∙ ap (all_wider c.args.order.now c.args.above c.args.below held_in) (take_all c.loop-place.place c.args.users.now.entries (omega (arith, c.len-place-end.ensures.len)))
