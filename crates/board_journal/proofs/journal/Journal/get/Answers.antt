use Rattle.std.proofs.Common.{◌≡◌, ◌+◌, ◌-◌, ◌*◌, ◌/◌, ◌%◌, ◌++◌, sym, ap, ◌∙◌, arith}
use Rattle.std.specs.Prelude.{slice_get}
use Rattle.board_journal.specs.Journals.{paged}
use Rattle.board_journal.proofs.Paging.{get-paged, get-after}
use Rattle.board_journal.proofs.journal.Journal.get.Goals as goal

pub returns-then-index-paged : goal.returns-then-index-paged
returns-then-index-paged c =
    let full = c.self.inside.full.items in
    let last = c.self.inside.last.entries in
    let page = c.index.result.now in
    let i = c.args.index in
    let below = c.if-index-paged.true in
    let pages = c.len-paged.ensures in
    let split : i ≡ i / 4096 * 4096 + i % 4096 = omega arith in
    let there = ap (λ n. slice_get (paged full ++ last) n) split ∙ get-paged full last (i / 4096) (i % 4096) page c.self.invariant.full (omega (arith, below, pages)) (omega arith) in
    let read = ap (λ p. slice_get p.value.entries (i % 4096)) (sym c.index.ensures) in
    rw (← c.self.view_is) (c.get.ensures ∙ (ap (λ p. slice_get p.entries (i % 4096)) c.deref.ensures ∙ sym (there ∙ read)))

pub returns-else-index-paged : goal.returns-else-index-paged
returns-else-index-paged c =
    let full = c.self.inside.full.items in
    let last = c.self.inside.last.entries in
    let i = c.args.index in
    let above = c.if-index-paged.false in
    let pages = c.len-paged.ensures in
    let there = get-after full last i (i - c.len-paged.result * 4096) c.self.invariant.full (omega (arith, above, pages)) in
    rw (← c.self.view_is) (c.get-else-index-paged.ensures ∙ sym there)
