-- Moves that are not tried again.
use Rattle.std.specs.Prelude.{ℕ, Bool, true, false, ◌==◌, List, Option, Some, None, filter_map, if◌then◌else◌}
use Rattle.move_core.specs.declared.moves.Move.{Move}
use Rattle.board_rules.specs.declared.call.Call.{Call}
use Rattle.board_rules.specs.declared.call.Call.TheVariants.{Propose}
use Rattle.board_rules.specs.declared.call.Entry.{Entry}
use Rattle.board_rules.specs.declared.reply.Denial.{Denial}
use Rattle.board_rules.specs.declared.reply.Denial.TheVariants.{Stale}
use Rattle.board_rules.specs.declared.reply.Reply.{Reply}
use Rattle.board_rules.specs.declared.reply.Reply.TheVariants.{Denied}

-- whether a denial says only that the base is old
abbrev pub is_stale : Denial → Bool
is_stale (Stale v) = true
is_stale _ = false

-- whether the reply is a denial that says more than that
abbrev pub is_final : Reply → Bool
is_final (Denied denial) = if is_stale denial then false else true
is_final _ = false

-- the move of a proposal at this version that was denied, other than as stale
abbrev pub denied_by : ℕ → Call → Reply → Option Move
denied_by version (Propose session base mv) reply = if base == version then (if is_final reply then Some mv else None) else None
denied_by version _ reply = None

abbrev pub denied_at : ℕ → Entry → Option Move
denied_at version e = denied_by version e.call e.reply

-- the moves that the entries say were denied at this version, other than as stale
abbrev pub skip_at : ℕ → List Entry → List Move
skip_at version entries = filter_map (denied_at version) entries
