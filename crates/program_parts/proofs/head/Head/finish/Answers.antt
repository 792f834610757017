use Rattle.std.proofs.Common.{ap, sym, ◌∙◌}
use Rattle.std.specs.Str.{bytes_eq}
use Rattle.program_parts.specs.Head.{mark}
use Rattle.program_parts.proofs.Halves.{end_at_mark, end_at_other, rest_of}
use Rattle.program_parts.proofs.head.Head.finish.Goals.{then-is_bare_mark, else-is_bare_mark}
use Rattle.program_parts.proofs.head.Head.finish.Goals as goal

pub returns-clause-halves : goal.returns-clause-halves
returns-clause-halves c =
    let text = c.args.self.text.items in
    let place = c.args.self.line in
    let same = ap (λ xs. bytes_eq xs mark) (sym (rest_of place text c.deref.result.now c.deref.ensures.value)) ∙ sym c.is_bare_mark.ensures in
    elim c.if-is_bare_mark.branch [
      | then-is_bare_mark w ↦ rw w.self-is (end_at_mark text place _ c.requires (same ∙ w.if-is_bare_mark.true) w.truncate.ensures.items)
      | else-is_bare_mark w ↦ rw w.self-is (end_at_other text place c.requires (same ∙ w.if-is_bare_mark.false))
    ]
