use Rattle.std.proofs.Common.{◌≡◌, ◌+◌, List, [], ◌∷◌, ◌++◌, length, ap, sym, ◌∙◌, subst}
use Rattle.board_rules.specs.declared.call.Entry.{Entry}
use Rattle.board_rules.specs.History.{Opening, IsNext, state_after}
use Rattle.board_core.specs.Kept.{CoreState, history_of}
use Rattle.published_board.specs.declared.change.Change.{Change}
use Rattle.published_board.specs.Changed.{IsChangeBy}
use Rattle.board_lock.proofs.Results.{on_ok}
use Rattle.board_lock.proofs.locked.put_in_place.Goals as goal

next_same : (o p : Opening) (es fs : List Entry) (e : Entry) → o ≡ p → es ≡ fs → IsNext o es e → IsNext p fs e
next_same o p es fs e of is next = subst (λ (q : Opening). IsNext q fs e) of (subst (λ (xs : List Entry). IsNext o xs e) is next)

change_same : (o p : Opening) (es fs : List Entry) (e : Entry) (c : Change) → o ≡ p → es ≡ fs → IsChangeBy o.setting (state_after o.setting es) e c → IsChangeBy p.setting (state_after p.setting fs) e c
change_same o p es fs e c of is change =
    subst (λ (q : Opening). IsChangeBy q.setting (state_after q.setting fs) e c) of (subst (λ (xs : List Entry). IsChangeBy o.setting (state_after o.setting xs) e c) is change)

pub stage-requires-clause-shown : goal.stage-requires-clause-shown
stage-requires-clause-shown g c = c.requires.shown ∙ sym c.requires.entries

pub stage-requires-clause-next : goal.stage-requires-clause-next
stage-requires-clause-next g c =
    let s = g.N.Naming.opening.setting in
    let core : CoreState = c.args.core.now in
    let next = subst (λ (k : CoreState). IsNext (history_of s k).opening k.journal c.args.prepared.entry) c.requires.of c.requires.makes.next in
    next_same (history_of s core).opening c.args.publication.now.opening core.journal c.args.publication.now.entries c.args.prepared.entry
    ((λ i. record { setting = s; desks = c.requires.desks i }) ∙ sym c.requires.opening) (sym c.requires.entries) next

pub stage-requires-clause-change : goal.stage-requires-clause-change
stage-requires-clause-change g c =
    change_same g.N.Naming.opening c.args.publication.now.opening c.args.core.now.journal c.args.publication.now.entries c.args.prepared.entry c.args.change
    (sym c.requires.opening) (sym c.requires.entries) c.requires.change

pub stage-requires-clause-entries : goal.stage-requires-clause-entries
stage-requires-clause-entries g c = ap (λ n. n + 1) (c.events.ensures.value ∙ ap length (sym c.requires.entries))

pub returns-in-Ok-clause-kept : goal.returns-in-Ok-clause-kept
returns-in-Ok-clause-kept g c = c.settle.ensures.kept g.N.Naming.opening.setting c.requires.kept c.requires.makes

pub returns-in-Ok-clause-untried : goal.returns-in-Ok-clause-untried
returns-in-Ok-clause-untried g c = c.settle.ensures.untried c.requires.untried

pub returns-in-Ok-clause-staged : goal.returns-in-Ok-clause-staged
returns-in-Ok-clause-staged g c =
    let p = c.args.publication.now in
    let entries = ap (λ xs. xs ++ c.args.prepared.entry ∷ []) c.requires.entries ∙ sym c.settle.ensures.journal in
    on_ok c.stage.result _ c.in-Ok.field-0 c.in-Ok.is c.stage.ensures.ok ∙ (λ i. record { book = p.book; opening = p.opening; entries = entries i; shown = p.shown })

pub returns-in-Err-clause-kept : goal.returns-in-Err-clause-kept
returns-in-Err-clause-kept g c = c.give_up.ensures.kept g.N.Naming.opening.setting c.requires.kept

pub returns-in-Err-clause-staged : goal.returns-in-Err-clause-staged
returns-in-Err-clause-staged g c =
    let p = c.args.publication.now in
    let entries = c.requires.entries ∙ ap (λ (k : CoreState). k.journal) (sym c.give_up.ensures.others) in
    c.in-Err.ensures.err ∙ (λ i. record { book = p.book; opening = p.opening; entries = entries i; shown = p.shown })
