-- What calls of a board change: the policy, the plan, the pins and frozen lengths, and the list of commits.
use Rattle.std.specs.Prelude.{ℕ, List, [], replicate, None}
use Rattle.dimension_core.specs.Setting.{Setting}
use Rattle.policy_core.specs.State.{PolicyState}
use Rattle.policy_core.specs.Opening.{opening}
use Rattle.pin_core.specs.Pins.{PinState}

pub record BoardState : Type 0 where
  pub policy : PolicyState
  -- for each vehicle its customers in order
  pub routes : List (List ℕ)
  -- for each customer its pin, for each vehicle its frozen length
  pub pins : PinState
  -- for each commit in order the set of the vehicles that it changed; the version is their number
  pub commits : List (List ℕ)

-- The state of a board before its first call: user `root` is assigned to role `root`, which has `admin` on the board and nothing else, and
-- session 1 is that user's with that role active; nobody is placed, pinned or frozen, and there was no commit.
abbrev pub opening_state : Setting → BoardState
opening_state s = record {
  policy = opening s.customers s.vehicles;
  routes = replicate s.vehicles [];
  pins = record { pins = replicate s.customers None; fronts = replicate s.vehicles 0 };
  commits = [];
}
