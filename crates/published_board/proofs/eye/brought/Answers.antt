use Rattle.std.proofs.Common.{subst, List, Option}
use Rattle.board_rules.specs.declared.call.Entry.{Entry}
use Rattle.board_rules.specs.History.{Opening, state_after}
use Rattle.board_rules.specs.Good.{IsGood}
use Rattle.published_board.specs.declared.eye.Kept.{Kept}
use Rattle.published_board.specs.Reached.{entries_of, history_in}
use Rattle.published_board.specs.Kepts.{AreKeptFor, IsKeptFor}
use Rattle.published_board.proofs.Prefixes.{prefix_trans}
use Rattle.published_board.proofs.eye.brought.Goals as goal

pub returns-in-None : goal.returns-in-None
returns-in-None c = λ o book seen es is legal shows pre.
    c.view.ensures o.setting es (c.legal_histories_leave_good_states.ensures.good (record { opening = o; entries = es }) legal) shows

pub returns-in-Some : goal.returns-in-Some
returns-in-Some c = λ o book seen es is legal shows pre.
    let good = c.legal_histories_leave_good_states.ensures.good in
    let k : Kept = c.in-Some.kept in
    let kept : IsKeptFor o book seen k = subst (λ (x : Option Kept). AreKeptFor o book seen x) c.in-Some.is is in
    let before : List Entry = entries_of k.base.pages in
    let was : IsGood o.setting (state_after o.setting before) = subst (λ (q : Opening). IsGood q.setting (state_after q.setting before)) kept.opening_is (good (history_in k.base.pages) kept.legal) in
    c.renew.ensures o.setting es before (good (record { opening = o; entries = es }) legal) was shows (prefix_trans before seen es kept.begins pre) kept.entries_is kept.view_is
