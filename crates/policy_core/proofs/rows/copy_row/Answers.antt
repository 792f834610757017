use Rattle.std.proofs.Common.{◌+◌, ◌-◌, ◌*◌, sym, ap, ◌∙◌, arith}
use Rattle.role_hierarchy.specs.Roles.{has}
use Rattle.permission_core.specs.Objects.{without_range}
use Rattle.permission_core.specs.Permissions.{row_place, row_set}
use Rattle.policy_core.specs.Parts.{members_below}
use Rattle.policy_core.proofs.MemberLaws.{below_none, below_all, held_again, held_on, past_words, emptied}
use Rattle.policy_core.proofs.rows.copy_row.Goals as goal

pub loop-place-init : goal.loop-place-init
loop-place-init c =
    c.revoke.ensures
    ∙ ap (row_set c.args.grants.now c.args.slot c.args.operation)
    (ap (λ m. without_range m 0 (2048 - 0)) (sym (c.words-words.ensures.value ∙ c.row.ensures)) ∙ emptied c.words-words.result.now c.words-words.ensures.whole ∙ sym (below_none c.row-row.result.now))

pub copy_word-requires-clause-below : goal.copy_word-requires-clause-below
copy_word-requires-clause-below c =
    held_again c.args.grants.now c.loop-place.grants (row_place c.args.slot c.args.operation) (members_below c.row-row.result.now (64 * c.loop-place.place)) c.loop-place.invariant

pub loop-place-preserved : goal.loop-place-preserved
loop-place-preserved c =
    let row = c.row-row.result.now in
    let p = c.loop-place.place in
    c.copy_word.ensures
    ∙ held_on c.args.grants.now c.loop-place.grants (row_place c.args.slot c.args.operation) (members_below row (64 * p)) (members_below row (64 * (p + 1))) c.loop-place.invariant

pub returns : goal.returns
returns c =
    let row = c.row-row.result.now in
    let words = c.words-words-2 in
    c.loop-place.invariant
    ∙ ap (row_set c.args.grants.now c.args.slot c.args.operation)
    (below_all row (64 * c.loop-place.place)
    (λ q high. ap (λ m. has m q) (sym words.ensures.value) ∙ past_words words.result.now words.ensures.whole q (omega (arith, high, c.loop-place-test.false)))
    ∙ c.row-row.ensures)
