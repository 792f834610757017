use Rattle.std.proofs.Common.{inl, inr, arith}
use Rattle.std.proofs.lemmas.Bool.{cases_lt}
use Rattle.role_hierarchy.specs.RoleLaws.{past_none}
use Rattle.role_hierarchy.proofs.role_set.RoleSet.next_from.Goals as goal

pub returns-clause-none : goal.returns-clause-none
returns-clause-none c q low = elim (cases_lt q 256) [
  | inl in_range ↦ c.loop-place.invariant.2 q low (omega arith)
  | inr past ↦ past_none c.args.self.now c.is_small.ensures q past
]
