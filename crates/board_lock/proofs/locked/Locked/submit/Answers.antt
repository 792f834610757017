use Rattle.std.proofs.Common.{List, sym, ◌∙◌, subst, arith}
use mathlib.Core.List.{IsPrefix}
use Rattle.board_rules.specs.declared.call.Entry.{Entry}
use Rattle.board_lock.specs.Commits.{Submitted, Faulted, Legal}
use Rattle.board_lock.proofs.Calls.{submitted, faulted}
use Rattle.board_lock.proofs.Results.{ok_map, ok_then, err_map}
use Rattle.board_lock.proofs.locked.Locked.submit.Goals as goal

pub returns-clause-ok : goal.returns-clause-ok
returns-clause-ok g c =
    let o = g.N.Naming.opening in
    let law = c.histories_grow_by_entries.ensures.turns in
    let before : List Entry = c.args.eye.now.seen in
    let es : List Entry = c.args.self.now.journal in
    let grows : IsPrefix before es = subst (λ (xs : List Entry). IsPrefix before xs) c.catch_up.ensures.seen c.catch_up.ensures.looked.grows in
    ok_map c.commit_for-answer.result _ _ c.commit_for-answer.ensures.ok (λ r done.
    subst (λ (xs : List Entry). Submitted o c.args.number c.args.own c.args.call r before xs) (sym c.commit_for-answer.ensures.seen)
    (submitted law o c.args.number c.args.own c.args.call r before es c.commit_for-answer.new.self.journal grows c.catch_up.ensures.own done))

pub returns-clause-few : goal.returns-clause-few
returns-clause-few g c =
    let o = g.N.Naming.opening in
    let law = c.histories_grow_by_entries.ensures.turns in
    let before : List Entry = c.args.eye.now.seen in
    let es : List Entry = c.args.self.now.journal in
    let grows : IsPrefix before es = subst (λ (xs : List Entry). IsPrefix before xs) c.catch_up.ensures.seen c.catch_up.ensures.looked.grows in
    ok_then c.commit_for-answer.result _ _ c.commit_for-answer.ensures.ok (λ r done.
    let now = (submitted law o c.args.number c.args.own c.args.call r before es c.commit_for-answer.new.self.journal grows c.catch_up.ensures.own done).turns_are in
    omega (arith, now, c.turns-last.ensures.turns, c.turns-last.ensures.few))

pub returns-clause-err : goal.returns-clause-err
returns-clause-err g c =
    let o = g.N.Naming.opening in
    let before : List Entry = c.args.eye.now.seen in
    let es : List Entry = c.args.self.now.journal in
    let grows : IsPrefix before es = subst (λ (xs : List Entry). IsPrefix before xs) c.catch_up.ensures.seen c.catch_up.ensures.looked.grows in
    let legal : Legal o es = subst (λ (xs : List Entry). Legal o xs) c.catch_up.ensures.seen c.catch_up.ensures.looked.legal in
    err_map c.commit_for-answer.result _ _ c.commit_for-answer.ensures.err (λ f fault.
    subst (λ (xs : List Entry). Faulted o c.args.number c.args.own f before xs) (sym (c.commit_for-answer.ensures.seen ∙ fault.0))
    (faulted o c.args.number c.args.own f before es c.requires.low c.requires.high grows c.catch_up.ensures.own legal fault.1))
