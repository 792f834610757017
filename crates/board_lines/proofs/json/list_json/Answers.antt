use Rattle.std.proofs.Common.{◌≡◌, false, codes, rules, refl, subst}
use Rattle.std.specs.Prelude.{IfOk, string_bytes}
use Rattle.std.proofs.lemmas.Result.{IfOk-weaker}
use Rattle.serde_json.specs.Data.{Data, object, member, no_members}
use Rattle.serde_json.specs.View.{view}
use Rattle.serde_json.specs.declared.value.Value.{the_lemmas}
use Rattle.serde_json.specs.Written.{has_float, compact_text}
use Rattle.board_lines.specs.Json.{rows_data, json_text}
use Rattle.board_lines.proofs.Floats.{rows_have_none}
use Rattle.board_lines.proofs.json.list_json.Goals as goal

pub returns : goal.returns
returns c =
    let whole = object (member (codes "rows") (rows_data c.args.rows.now) no_members) in
    let built : view c.in_ok-whole.whole ≡ whole = search (rules, the_lemmas) in
    let plain : has_float whole ≡ false = rw (rows_have_none c.args.rows.now) refl in
    let Says : Data → Type 0 = λ d. IfOk c.to_string.result (λ s. has_float d ≡ false → string_bytes s ≡ compact_text d) in
    let said = subst Says built c.to_string.ensures.text in
    IfOk-weaker c.to_string.result (λ s. has_float whole ≡ false → string_bytes s ≡ compact_text whole) (λ s. string_bytes s ≡ json_text c.args.rows.now) (λ s h. h plain) said
