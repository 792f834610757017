use Rattle.std.proofs.Common.{sym, ◌∙◌, arith, inl, inr}
use Rattle.std.proofs.lemmas.Bool.{true≢false, cases_lt}
use Rattle.role_hierarchy.specs.RoleLaws.{has-empty}
use Rattle.separation_core.proofs.IndexLaws.{join_more}
use Rattle.separation_core.proofs.index.places_of.Goals as goal

pub loop-role-init : goal.loop-role-init
loop-role-init c = (omega arith, λ q. (λ h. absurd (true≢false (sym h ∙ has-empty q)), λ found. absurd (omega (arith, found.1))))

pub loop-role-preserved : goal.loop-role-preserved
loop-role-preserved c = (
  omega arith,
  join_more c.args.roles c.loop-role.from c.in-Some.role c.in-Some.ensures.from c.in-Some.ensures.least c.in-Some.ensures.member
      c.args.rows.now c.loop-role.places c.loop-role.invariant.1,
)

pub returns : goal.returns
returns c q = (
  λ h. (let found = (c.loop-role.invariant.1 q).0 h in (found.0, found.2, found.3)),
  λ found. elim (cases_lt found.0 c.loop-role.from) [
    | inl h ↦ (c.loop-role.invariant.1 q).1 (found.0, h, found.1, found.2)
    | inr h ↦ absurd (true≢false (sym found.1 ∙ c.in_default.ensures.none found.0 h))
  ],
)
