use Rattle.std.proofs.Common.{ap, ◌++◌, ◌∙◌}
use Rattle.board_journal.specs.Shown.{Shown}
use Rattle.board_journal.specs.Journals.{pages_of}
use Rattle.board_journal.proofs.Shared.{paged_same, kept_same}
use Rattle.board_journal.proofs.journal.Journal.share.Goals as goal

pub invariant_of-result : goal.invariant_of-result
invariant_of-result c =
    let pages = c.in_ok-full.ensures ∙ ap pages_of c.as_slice.ensures.value in
    kept_same c.in_ok-full.full.items c.self.inside.full.items c.self.inside.last c.in_ok-last.last pages c.in_ok-last.ensures.entries c.in_ok-last.ensures.room c.self.invariant

pub returns : goal.returns
returns c =
    let pages = c.in_ok-full.ensures ∙ ap pages_of c.as_slice.ensures.value in
    (λ i. paged_same c.in_ok-full.full.items c.self.inside.full.items pages i ++ c.in_ok-last.ensures.entries i) ∙ ap (λ (j : Shown). j.entries) c.self.view_is
