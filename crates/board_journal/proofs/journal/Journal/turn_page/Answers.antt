use Rattle.std.proofs.Common.{◌∙◌, ◌<◌, ℕ, ◌++◌, ◌∷◌, [], ap, subst}
use Rattle.board_journal.specs.Journals.{paged}
use Rattle.board_journal.specs.Shown.{Shown}
use Rattle.board_journal.proofs.Shared.{same_journal, turned, turned_journal}
use Rattle.board_journal.proofs.journal.Journal.turn_page.Goals as goal

pub invariant_of-self-in-Ok : goal.invariant_of-self-in-Ok
invariant_of-self-in-Ok c =
    let pages = c.push_reserved.ensures.items ∙ ap (λ xs. xs ++ c.in-Ok.page ∷ []) c.in_ok-reserve.ensures.items in
    let none = ap (λ (s : Shown). s.entries) c.replace.ensures.after ∙ c.in_ok-next.ensures.entries in
    turned_journal c.self.inside.full.items c.push_reserved.new.self.items c.in-Ok.page c.self.inside.last c.replace.new.dest pages (c.in-Ok.ensures.ok ∙ c.replace.ensures.value) none
    c.self.invariant (ap (λ (s : Shown). s.room) c.self.view_is ∙ c.requires) (subst (λ (n : ℕ). n < 1048576) (c.len.ensures ∙ c.self.inside.full.ok.0) c.if-len-ge-MOST_PAGES.false)
    (ap (λ (s : Shown). s.room) c.replace.ensures.after ∙ c.in_ok-next.ensures.room)

pub invariant_of-self-in-Err : goal.invariant_of-self-in-Err
invariant_of-self-in-Err c =
    same_journal c.self.inside.full.items c.reserve.new.self.items c.self.inside.last c.in-Err.failed.value c.in_ok-reserve.ensures.items
    (c.in-Err.ensures.value_returned ∙ c.replace.ensures.value) c.self.invariant

pub returns-in-Ok-clause-entries : goal.returns-in-Ok-clause-entries
returns-in-Ok-clause-entries c =
    let pages = c.push_reserved.ensures.items ∙ ap (λ xs. xs ++ c.in-Ok.page ∷ []) c.in_ok-reserve.ensures.items in
    let none = ap (λ (s : Shown). s.entries) c.replace.ensures.after ∙ c.in_ok-next.ensures.entries in
    turned c.self.inside.full.items c.push_reserved.new.self.items c.in-Ok.page c.self.inside.last c.replace.new.dest pages (c.in-Ok.ensures.ok ∙ c.replace.ensures.value) none
    ∙ ap (λ (s : Shown). s.entries) c.self.view_is

pub returns-in-Err-clause-entries : goal.returns-in-Err-clause-entries
returns-in-Err-clause-entries c =
    let last = c.in-Err.ensures.value_returned ∙ c.replace.ensures.value in
    (λ i. paged (c.in_ok-reserve.ensures.items i) ++ (last i).entries) ∙ ap (λ (s : Shown). s.entries) c.self.view_is
