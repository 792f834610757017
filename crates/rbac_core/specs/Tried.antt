-- A policy, and the state that a tried command would make.
use Rattle.std.specs.Prelude.{Bool, false}
use Rattle.policy_core.specs.State.{PolicyState}

pub record Tried : Type 0 where
  pub now : PolicyState
  pub tried : PolicyState
  -- the spare policy can be made equal to the policy without memory
  pub level : Bool
  -- a command is tried
  pub trying : Bool

-- the policy where nothing is tried
abbrev pub idle : PolicyState → Bool → Tried
idle policy level = record { now = policy; tried = policy; level = level; trying = false }
