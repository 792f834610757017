use Rattle.std.proofs.Common.{◌≡◌, ◌+◌, ◌*◌, sym, ap, ◌∙◌, arith}
use Rattle.role_hierarchy.specs.Roles.{has}
use Rattle.permission_core.specs.Permissions.{row_place, row_set}
use Rattle.policy_core.specs.Parts.{members_below}
use Rattle.policy_core.proofs.MemberLaws.{row_skip, row_take, held_again, held_on, empty_word, full_word}
use Rattle.policy_core.proofs.rows.copy_word.Goals as goal

pub returns-then-word-eq0 : goal.returns-then-word-eq0
returns-then-word-eq0 c =
    let row = c.args.row.now in
    let p = c.args.place in
    row_skip row (64 * p) (64 * (p + 1)) (omega arith) c.args.grants.now c.args.grants.now (row_place c.args.slot c.args.operation) c.requires.below
    (λ q low high. ap (λ m. has m q) (sym c.words.ensures.value) ∙ empty_word c.words.result.now c.words.ensures.whole p q c.if-word-eq0.true low high)

pub returns-then-word : goal.returns-then-word
returns-then-word c =
    let row = c.args.row.now in
    let p = c.args.place in
    let g = c.args.grants.now in
    let next : 64 * p + 64 ≡ 64 * (p + 1) = omega arith in
    c.grant.ensures
    ∙ row_take row (64 * p) (64 * p + 64) (omega arith) g g (row_place c.args.slot c.args.operation) c.requires.below
    (λ q low high. ap (λ m. has m q) (sym c.words.ensures.value) ∙ full_word c.words.result.now c.words.ensures.whole p q c.if-word.true low (omega (arith, high)))
    ∙ ap (λ n. row_set g c.args.slot c.args.operation (members_below row n)) next

pub copy_member-requires-clause-below : goal.copy_member-requires-clause-below
copy_member-requires-clause-below c =
    held_again c.args.grants.now c.loop-number.grants (row_place c.args.slot c.args.operation) (members_below c.args.row.now c.loop-number.number) c.loop-number.invariant

pub loop-number-preserved : goal.loop-number-preserved
loop-number-preserved c =
    let row = c.args.row.now in
    let n = c.loop-number.number in
    c.copy_member.ensures ∙ held_on c.args.grants.now c.loop-number.grants (row_place c.args.slot c.args.operation) (members_below row n) (members_below row (n + 1)) c.loop-number.invariant
