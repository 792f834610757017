use Rattle.std.proofs.Common.{map}
use Rattle.serde_json.specs.View.{view}
use Rattle.board_lines.specs.Json.{number_data}
use Rattle.board_lines.proofs.Starting.{one_grown}
use Rattle.board_lines.proofs.json.push_values.Goals as goal

pub loop-n-preserved : goal.loop-n-preserved
loop-n-preserved c = one_grown number_data _ _ 0 _ _ _ c.loop-n-test.true c.loop-n.invariant c.in_ok-push_value.ensures
