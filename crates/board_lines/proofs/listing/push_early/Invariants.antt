use Rattle.std.proofs.Common.{◌≡◌, ◌++◌, take, string_bytes}
use Rattle.std.specs.List.{flat_map}
use Rattle.board_lines.specs.Replies.{spaced}
use Rattle.board_lines.proofs.listing.push_early.Given as goal

abbrev pub invariant-loop-value : goal.invariant-loop-value
invariant-loop-value l = string_bytes l.out ≡ string_bytes l.fn.out ++ flat_map spaced (take l.value-index l.early)
