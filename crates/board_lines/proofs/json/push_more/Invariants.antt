use Rattle.std.proofs.Common.{◌≡◌, ◌++◌, take, string_bytes}
use Rattle.std.specs.List.{flat_map}
use Rattle.board_lines.specs.Json.{next_cells}
use Rattle.board_lines.proofs.json.push_more.Given as goal

abbrev pub invariant-loop-row : goal.invariant-loop-row
invariant-loop-row l = string_bytes l.out ≡ string_bytes l.fn.out ++ flat_map next_cells (take l.row-index l.rows)
