-- What a core keeps has at most one proof, so that a ghost field can state it.
use Rattle.std.proofs.Props.{props}
use Rattle.dimension_core.specs.Setting.{Setting}
use Rattle.board_core.specs.Kept.{CoreState, IsKept}

pub IsKept-prop : (s : Setting) (core : CoreState) → IsProp (IsKept s core)
IsKept-prop s core = hlevel props
