-- What a call does not name stays.
use Rattle.std.specs.Prelude.{◌≡◌}
use Rattle.board_rules.specs.declared.call.Call.{Call}
use Rattle.board_rules.specs.declared.call.Call.TheVariants.{Propose, Pin, Unpin, Freeze, Thaw, Policy}
use Rattle.board_rules.specs.State.{BoardState}

-- the policy stays
abbrev pub KeepsPolicy : BoardState → BoardState → Type 0
KeepsPolicy old new = new.policy ≡ old.policy

-- the plan and its commits stay
abbrev pub KeepsPlan : BoardState → BoardState → Type 0
KeepsPlan old new = (new.routes ≡ old.routes) × (new.commits ≡ old.commits)

-- A proposal keeps the policy and the frozen lengths. A pin and an unpin keep all but the pins, a freeze and a thaw all but the frozen
-- lengths, and a command on the policy all but the policy.
abbrev pub KeepsTheRest : BoardState → Call → BoardState → Type 0
KeepsTheRest old (Propose session base mv) new = KeepsPolicy old new × (new.pins.fronts ≡ old.pins.fronts)
KeepsTheRest old (Pin session customer) new = KeepsPolicy old new × KeepsPlan old new × (new.pins.fronts ≡ old.pins.fronts)
KeepsTheRest old (Unpin session customer) new = KeepsPolicy old new × KeepsPlan old new × (new.pins.fronts ≡ old.pins.fronts)
KeepsTheRest old (Freeze session vehicle n) new = KeepsPolicy old new × KeepsPlan old new × (new.pins.pins ≡ old.pins.pins)
KeepsTheRest old (Thaw session vehicle n) new = KeepsPolicy old new × KeepsPlan old new × (new.pins.pins ≡ old.pins.pins)
KeepsTheRest old (Policy session command) new = KeepsPlan old new × (new.pins ≡ old.pins)
