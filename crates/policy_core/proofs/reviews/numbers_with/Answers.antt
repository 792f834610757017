use Rattle.std.proofs.Common.{ℕ, List, Bool, sym, ap, ◌∙◌, arith, ◌++◌, ◌∷◌, []}
use Rattle.std.proofs.lemmas.Bool.{false≢true}
use Rattle.std.specs.Prelude.{bytes_eq}
use Rattle.policy_core.specs.declared.session.Session.{Session}
use Rattle.policy_core.proofs.ReviewLaws.{gathered_more, gathered_skip, gathered_all}
use Rattle.policy_core.proofs.reviews.numbers_with.Goals.{in-Some+then-eq+in_ok-push, in-Some+else-eq, in_default}
use Rattle.policy_core.proofs.reviews.numbers_with.Goals as goal

pub loop-place-preserved : goal.loop-place-preserved
loop-place-preserved c =
    let keep : (ℕ × Session) → Bool = λ u. bytes_eq u.1.user c.args.user in
    let es : List (ℕ × Session) = c.args.sessions.now.entries in
    let i = c.loop-place.place in
    elim c.match-get_index.branch [
      | in-Some+then-eq+in_ok-push w ↦
          (let entry : ℕ × Session = (w.in-Some.number.now, w.in-Some.session.now) in
          ap (λ v. v.items) w.numbers-is ∙ w.in_ok-push.ensures.items ∙ ap (λ xs. xs ++ entry.0 ∷ []) c.loop-place.invariant
          ∙ gathered_more (λ (u : ℕ × Session). u.0) keep es i entry (sym w.in-Some.ensures.entry) (sym w.eq.ensures ∙ w.if-eq.true))
      | in-Some+else-eq w ↦
          (let entry : ℕ × Session = (w.in-Some.number.now, w.in-Some.session.now) in
          ap (λ v. v.items) w.numbers-is ∙ c.loop-place.invariant
          ∙ gathered_skip (λ (u : ℕ × Session). u.0) keep es i entry (sym w.in-Some.ensures.entry) (sym w.eq.ensures ∙ w.if-eq.false))
      | in_default w ↦ absurd (false≢true (w.in_default.ensures.found.1 (omega (arith, c.len-place-end.ensures.len))))
    ]

pub returns : goal.returns
returns c = c.loop-place.invariant ∙ gathered_all (λ (u : ℕ × Session). u.0) (λ u. bytes_eq u.1.user c.args.user) c.args.sessions.now.entries c.loop-place.place (omega (arith, c.len-place-end.ensures.len))
