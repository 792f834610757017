use Rattle.std.proofs.Common.{ℕ, take, sym, ap, ◌∙◌, arith, ◌++◌, ◌∷◌, []}
use Rattle.std.proofs.lemmas.Bool.{false≢true}
use Rattle.std.proofs.lemmas.List.{map-append, take_all}
use Rattle.separation_core.specs.GroupLaws.{take_at}
use Rattle.policy_core.specs.declared.session.Session.{Session}
use Rattle.policy_core.specs.State.{numbers_of}
use Rattle.policy_core.proofs.reviews.all_numbers.Goals.{in-Some+in_ok-push, in_default}
use Rattle.policy_core.proofs.reviews.all_numbers.Goals as goal

pub loop-place-preserved : goal.loop-place-preserved
loop-place-preserved c = elim c.match-get_index.branch [
  | in-Some+in_ok-push w ↦
      (let es = c.args.sessions.now.entries in
      let i = c.loop-place.place in
      let entry : ℕ × Session = (w.in-Some.number.now, w.in-Some.field-0-1.now) in
      ap (λ v. v.items) w.numbers-is ∙ w.in_ok-push.ensures.items ∙ ap (λ ns. ns ++ entry.0 ∷ []) c.loop-place.invariant
      ∙ sym (ap numbers_of (take_at es i entry (sym w.in-Some.ensures.entry)) ∙ map-append (λ (e : ℕ × Session). e.0) (take i es) (entry ∷ [])))
  | in_default w ↦ absurd (false≢true (w.in_default.ensures.found.1 (omega (arith, c.len-place-end.ensures.len))))
]

pub returns : goal.returns
returns c = c.loop-place.invariant ∙ ap numbers_of (take_all c.loop-place.place c.args.sessions.now.entries (omega (arith, c.len-place-end.ensures.len)))
