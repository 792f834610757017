use Rattle.std.proofs.Common.{◌≡◌, ◌++◌, take, string_bytes}
use Rattle.std.specs.List.{flat_map}
use Rattle.board_lines.specs.Json.{comma_number}
use Rattle.board_lines.proofs.json.push_commas.Given as goal

abbrev pub invariant-loop-n : goal.invariant-loop-n
invariant-loop-n l = string_bytes l.out ≡ string_bytes l.fn.out ++ flat_map comma_number (take l.n-index l.numbers)
