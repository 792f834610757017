use Rattle.std.proofs.Common.{◌≡◌, ◌++◌, take, map}
use Rattle.serde_json.specs.View.{view}
use Rattle.board_lines.specs.Json.{number_data}
use Rattle.board_lines.proofs.json.push_values.Given as goal

abbrev pub invariant-loop-n : goal.invariant-loop-n
invariant-loop-n l = map view l.list.items ≡ map view l.fn.list.items ++ map number_data (take l.n-index l.numbers)
