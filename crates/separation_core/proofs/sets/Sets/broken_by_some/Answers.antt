use Rattle.std.proofs.Common.{ℕ, List, sym, ap, ◌∙◌, arith}
use Rattle.std.proofs.lemmas.List.{take_all}
use Rattle.std.proofs.lemmas.Bool.{false≢true}
use Rattle.separation_core.specs.declared.sets.Limit.{Limit}
use Rattle.separation_core.specs.Groups.{first_breaking}
use Rattle.separation_core.specs.GroupLaws.{breaking-none, breaking-here, breaking-more}
use Rattle.separation_core.proofs.sets.Sets.broken_by_some.Goals.{in-Some+else-breaks_some, in_default}
use Rattle.separation_core.proofs.sets.Sets.broken_by_some.Goals as goal

pub loop-place-init : goal.loop-place-init
loop-place-init c = breaking-none c.args.all.now

pub loop-place-preserved : goal.loop-place-preserved
loop-place-preserved c = elim c.match-get_index.branch [
  | in-Some+else-breaks_some w ↦
      (let g : List ℕ × Limit = (w.in-Some.name.now, w.in-Some.limit.now) in
      breaking-more c.args.all.now c.self.inside.groups.entries c.loop-place.place g c.loop-place.invariant (sym w.in-Some.ensures.entry) (sym w.breaks_some.ensures ∙ w.if-breaks_some.false))
  | in_default w ↦ absurd (false≢true (w.in_default.ensures.found.1 (omega (arith, c.len-place-end.ensures.len))))
]

pub returns-then-breaks_some : goal.returns-then-breaks_some
returns-then-breaks_some c =
    let g : List ℕ × Limit = (c.in-Some.name.now, c.in-Some.limit.now) in
    sym (breaking-here c.args.all.now c.self.inside.groups.entries c.loop-place.place g c.loop-place.invariant (sym c.in-Some.ensures.entry) (sym c.breaks_some.ensures ∙ c.if-breaks_some.true))
    ∙ ap (first_breaking c.args.all.now) c.self.view_is

pub returns : goal.returns
returns c =
    let all = take_all c.loop-place.place c.self.inside.groups.entries (omega (arith, c.len-place-end.ensures.len)) in
    sym (ap (first_breaking c.args.all.now) (sym c.self.view_is ∙ sym all) ∙ c.loop-place.invariant)
