use Rattle.std.proofs.Common.{◌≡◌, filter, take}
use Rattle.rbac_core.specs.Affected.{has_lost}
use Rattle.rbac_core.proofs.effects.lost_among.Given as goal

abbrev pub invariant-loop-session : goal.invariant-loop-session
invariant-loop-session l = l.sessions.items ≡ filter (has_lost l.old l.new) (take l.session-index l.all)
