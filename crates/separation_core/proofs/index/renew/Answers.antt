use Rattle.std.proofs.Common.{◌≡◌, ℕ, ◌||◌, ◌&&◌, List, get_or, sym, ap, ◌∙◌, arith}
use Rattle.std.specs.Prelude.{◌==◌, replicate}
use Rattle.std.proofs.lemmas.Bool.{false≢true}
use Rattle.std.proofs.lemmas.List.{get_or-replicate}
use Rattle.role_hierarchy.specs.Roles.{has}
use Rattle.role_hierarchy.specs.RoleLaws.{has-empty}
use Rattle.separation_core.specs.declared.sets.Limit.{Limit}
use Rattle.separation_core.proofs.IndexLaws.{before_none, before_more, before_all}
use Rattle.separation_core.proofs.index.renew.Goals.{in-Some, in_default}
use Rattle.separation_core.proofs.index.renew.Goals as goal

pub loop-place-init : goal.loop-place-init
loop-place-init c role q h =
    let zeros : c.fill.new.self ≡ replicate 256 0 = c.fill.ensures.after (λ y e. e) ∙ ap (λ n. replicate n 0) c.requires.rows in
    ap (λ rows. has (get_or rows role 0) q) zeros
    ∙ ap (λ w. has w q) (get_or-replicate 256 role 0 0 h)
    ∙ has-empty q ∙ sym (before_none c.args.groups.now.entries role q)

pub loop-place-preserved : goal.loop-place-preserved
loop-place-preserved c = elim c.match-get_index.branch [
  | in-Some w ↦ λ role q h.
      (let entries = c.args.groups.now.entries in
      let g : List ℕ × Limit = (w.in-Some.field-0-0.now, w.in-Some.limit.now) in
      ap (λ rows. has (get_or rows role 0) q) w.rows-is
      ∙ w.mark.ensures role q h
      ∙ ap (λ b. b || ((q == c.loop-place.place) && has g.1.roles role)) (c.loop-place.invariant role q h)
      ∙ before_more entries c.loop-place.place role q g (sym w.in-Some.ensures.entry))
  | in_default w ↦ absurd (false≢true (w.in_default.ensures.found.1 (omega (arith, c.len-place-end.ensures.len))))
]

pub returns : goal.returns
returns c role q h =
    c.loop-place.invariant role q (omega arith)
    ∙ before_all c.args.groups.now.entries c.loop-place.place role q (omega (arith, c.len-place-end.ensures.len))
