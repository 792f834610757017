use Rattle.std.proofs.Common.{◌≡◌, ◌∙◌, List, map, ap, rules}
use Rattle.std.proofs.lemmas.List.{take_all}
use Rattle.serde_json.specs.Data.{Data, array}
use Rattle.serde_json.specs.declared.value.Value.{Array, the_lemmas}
use Rattle.serde_json.specs.View.{view, items_of}
use Rattle.board_lines.specs.Json.{row_data}
use Rattle.board_lines.proofs.Starting.{one_pushed}
use Rattle.board_lines.proofs.json.rows_value.Goals as goal

pub loop-row-preserved : goal.loop-row-preserved
loop-row-preserved c = one_pushed view row_data _ _ _ _ _ _ _ c.loop-row-test.true c.row-item.is c.loop-row.invariant c.in_ok-row_value.ensures c.in_ok-push.ensures.items

pub returns : goal.returns
returns c =
    let same : map view c.loop-row.list.items ≡ map row_data c.args.rows.now = c.loop-row.invariant ∙ ap (map row_data) (take_all _ _ c.loop-row-test.false) in
    let opened : view (Array c.loop-row.list) ≡ array (items_of (map view c.loop-row.list.items)) = search (rules, the_lemmas) in
    opened ∙ ap (λ (l : List Data). array (items_of l)) same
