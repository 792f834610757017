-- SSD sets and DSD sets as one family, by their kind.
use Rattle.std.specs.Prelude.{ℕ, List, Option}
use Rattle.separation_core.specs.Groups.{Groups}
use Rattle.policy_core.specs.declared.refusal.Refusal.{Refusal}
use Rattle.policy_core.specs.declared.separation.Separation.{Separation}
use Rattle.policy_core.specs.declared.separation.Separation.TheVariants.{Static, Dynamic}
use Rattle.policy_core.specs.State.{PolicyState, authorized, counted_all, broken_ssd, broken_dsd}

-- the first for SSD, the second for DSD
abbrev pub by_kind : {X : Type 0} → Separation → X → X → X
by_kind Static ssd dsd = ssd
by_kind Dynamic ssd dsd = dsd

-- the sets of a kind
abbrev pub sets_of : Separation → PolicyState → Groups
sets_of kind p = by_kind kind p.ssd p.dsd

-- the state in which these are the sets of a kind
abbrev pub with_sets : Separation → PolicyState → Groups → PolicyState
with_sets kind p sets = record p { ssd = by_kind kind sets p.ssd; dsd = by_kind kind p.dsd sets }

-- the sets of roles that may break none of the kind: those for which each user is authorized, or those that are counted for each session
abbrev pub given_by : Separation → PolicyState → List ℕ
given_by kind p = by_kind kind (authorized p) (counted_all p)

-- why a state is not allowed: the first set of the kind that it breaks
abbrev pub broken_by : Separation → PolicyState → Option Refusal
broken_by kind p = by_kind kind (broken_ssd p) (broken_dsd p)
