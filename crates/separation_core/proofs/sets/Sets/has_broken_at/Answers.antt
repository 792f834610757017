use Rattle.std.proofs.Common.{◌≡◌, ℕ, List, sym, ap, ◌∙◌, arith, refl, true, false, Some, None, subst}
use Rattle.std.specs.Prelude.{slice_get}
use Rattle.std.specs.Int.{trailing_zeros, w64}
use Rattle.std.proofs.lemmas.Bool.{true≢false, false≢true}
use Rattle.role_hierarchy.specs.Roles.{has}
use Rattle.role_hierarchy.specs.RoleLaws.{has-empty}
use Rattle.separation_core.specs.declared.sets.Limit.{Limit}
use Rattle.separation_core.specs.Groups.{is_broken}
use Rattle.separation_core.proofs.Rests.{has_low, rest_less, rest_within, past_low}
use Rattle.separation_core.proofs.sets.Sets.has_broken_at.Goals.{in-Some+else-is_reached_by, in_default}
use Rattle.separation_core.proofs.sets.Sets.has_broken_at.Goals as goal

pub loop-rest-init : goal.loop-rest-init
loop-rest-init c = (λ q h. h, λ q g here gone there. absurd (true≢false (sym here ∙ gone)))

pub loop-rest-preserved : goal.loop-rest-preserved
loop-rest-preserved c = (
  λ q h. c.loop-rest.invariant.0 q (rest_within c.loop-rest.rest (omega (arith, c.loop-rest-test.true)) (omega (arith, c.loop-rest.auto.rest-fits)) q h),
  λ q g here gone there.
      past_low c.loop-rest.rest (omega (arith, c.loop-rest-test.true)) (omega (arith, c.loop-rest.auto.rest-fits))
      (λ q. (g : List ℕ × Limit) → has c.args.places q ≡ true → slice_get c.self.inside.groups.entries q ≡ Some g → is_broken c.args.given g.1 ≡ false)
      (λ g here there. elim c.match-get_index.branch [
        | in-Some+else-is_reached_by w ↦
            (let same : Some (w.in-Some.field-0-0.now, w.in-Some.limit.now) ≡ Some g = w.in-Some.ensures.entry ∙ there in
            whole c.args.given (w.in-Some.field-0-0.now, w.in-Some.limit.now) g same (sym w.is_reached_by.ensures ∙ w.if-is_reached_by.false))
        | in_default w ↦ none (w.in_default.ensures.entry ∙ there)
      ])
      (λ q out g here there. c.loop-rest.invariant.1 q g here out there)
      q gone g here there,
)
  where
    whole : (given : ℕ) (x y : List ℕ × Limit) → Some x ≡ Some y → is_broken given x.1 ≡ false → is_broken given y.1 ≡ false
    whole given x y same e = let one : x ≡ y = cc in subst (λ z. is_broken given z.1 ≡ false) one e

    none : {X : Type 0} {g : List ℕ × Limit} → None ≡ Some g → X
    none e = absurd (cc)

pub loop-rest-smaller : goal.loop-rest-smaller
loop-rest-smaller c = rest_less c.loop-rest.rest (omega (arith, c.loop-rest-test.true)) (omega (arith, c.loop-rest.auto.rest-fits))

pub returns-then-is_reached_by : goal.returns-then-is_reached_by
returns-then-is_reached_by c =
    let place = has_low c.loop-rest.rest (omega (arith, c.loop-rest-test.true)) (omega (arith, c.loop-rest.auto.rest-fits)) in
    let low = trailing_zeros w64 c.loop-rest.rest in
    let there : slice_get c.args.self.now low ≡ Some (c.in-Some.field-0-0.now, c.in-Some.limit.now) = ap (λ gs. slice_get gs low) (sym c.self.view_is) ∙ sym c.in-Some.ensures.entry in (
      λ h. (low, (c.in-Some.field-0-0.now, c.in-Some.limit.now), c.loop-rest.invariant.0 low place, there, sym c.is_reached_by.ensures ∙ c.if-is_reached_by.true),
      λ h. refl,
    )

pub returns : goal.returns
returns c = (
  λ h. absurd (false≢true h),
  λ found.
      let empty : has c.loop-rest.rest found.0 ≡ false = ap (λ w. has w found.0) (c.loop-rest-test.false) ∙ has-empty found.0 in
      absurd (true≢false (sym found.4 ∙ c.loop-rest.invariant.1 found.0 found.1 found.2 empty (ap (λ gs. slice_get gs found.0) c.self.view_is ∙ found.3))),
)
