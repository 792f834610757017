-- How a spare policy follows the other.
use Rattle.std.specs.Prelude.{◌≡◌, None, Bool, true, false, not}
use Rattle.policy_core.specs.State.{PolicyState}
use Rattle.policy_core.specs.Parts.{DifferIn, is_copied}
use Rattle.rbac_core.specs.declared.twin.Lag.{Lag}
use Rattle.rbac_core.specs.declared.twin.Lag.TheVariants.{Even, Behind, Ahead, Apart}
use Rattle.rbac_core.specs.Step.{refusal_of, after, takes_memory}

abbrev pub Follows : Lag → PolicyState → PolicyState → Type 0
Follows Even spare policy = spare ≡ policy
Follows (Behind command) spare policy = (refusal_of spare command ≡ None) × (policy ≡ after spare command)
Follows (Ahead parts) spare policy = DifferIn parts spare policy
Follows (Apart parts) spare policy = DifferIn parts spare policy

abbrev pub tried_of : Lag → PolicyState → PolicyState → PolicyState
tried_of (Ahead parts) spare policy = spare
tried_of _ spare policy = policy

-- The spare policy can be made equal to the other without memory: it is equal, or lacks only a command that takes none, or differs only in
-- permissions, which are copied back in place.
abbrev pub level_of : Lag → Bool
level_of Even = true
level_of (Behind command) = not (takes_memory command)
level_of (Ahead parts) = not (is_copied parts)
level_of (Apart parts) = not (is_copied parts)

-- a command is tried on the spare policy
abbrev pub trying_of : Lag → Bool
trying_of (Ahead parts) = true
trying_of _ = false
