use Rattle.std.proofs.Common.{ℕ, List, Bool, sym, ap, ◌∙◌, arith, ◌++◌, ◌∷◌, []}
use Rattle.std.proofs.lemmas.Bool.{false≢true}
use Rattle.role_hierarchy.specs.Roles.{has}
use Rattle.policy_core.proofs.ReviewLaws.{gathered_more, gathered_skip, gathered_all}
use Rattle.policy_core.proofs.reviews.users_with.Goals.{in-Some+then-contains+in_ok-push, in-Some+else-contains, in_default}
use Rattle.policy_core.proofs.reviews.users_with.Goals as goal

pub loop-place-preserved : goal.loop-place-preserved
loop-place-preserved c =
    let keep : (List ℕ × ℕ) → Bool = λ u. has u.1 c.args.slot in
    let es : List (List ℕ × ℕ) = c.args.users.now.entries in
    let i = c.loop-place.place in
    elim c.match-get_index.branch [
      | in-Some+then-contains+in_ok-push w ↦
          (let entry : List ℕ × ℕ = (w.in-Some.name.now, w.in-Some.roles.now) in
          ap (λ v. v.items) w.names-is ∙ w.in_ok-push.ensures.items ∙ ap (λ xs. xs ++ entry.0 ∷ []) c.loop-place.invariant
          ∙ gathered_more (λ (u : List ℕ × ℕ). u.0) keep es i entry (sym w.in-Some.ensures.entry) (sym w.contains.ensures ∙ w.if-contains.true))
      | in-Some+else-contains w ↦
          (let entry : List ℕ × ℕ = (w.in-Some.name.now, w.in-Some.roles.now) in
          ap (λ v. v.items) w.names-is ∙ c.loop-place.invariant
          ∙ gathered_skip (λ (u : List ℕ × ℕ). u.0) keep es i entry (sym w.in-Some.ensures.entry) (sym w.contains.ensures ∙ w.if-contains.false))
      | in_default w ↦ absurd (false≢true (w.in_default.ensures.found.1 (omega (arith, c.len-place-end.ensures.len))))
    ]

pub returns : goal.returns
returns c = c.loop-place.invariant ∙ gathered_all (λ (u : List ℕ × ℕ). u.0) (λ u. has u.1 c.args.slot) c.args.users.now.entries c.loop-place.place (omega (arith, c.len-place-end.ensures.len))
