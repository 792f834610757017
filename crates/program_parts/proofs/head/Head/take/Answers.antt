use Rattle.std.proofs.Common.{rules, ap, sym, ◌∙◌, ◌≡◌, ◌≢◌, ◌≤◌, ◌++◌, ◌∷◌, [], length, drop, true, false, refl}
use Rattle.program_parts.specs.Head.{ends_instance}
use Rattle.program_parts.proofs.Halves.{marked_as, line_more_as, byte_more_as, rest_of}
use Rattle.program_parts.proofs.head.Head.take.Goals.{then-byte-ne10+in_ok-push, else-byte-ne10+else-is_mark+in_ok-push-2+else-self-gt-LARGEST_FILE}
use Rattle.program_parts.proofs.head.Head.take.Goals as goal

pub returns-then-is_mark-clause-took : goal.returns-then-is_mark-clause-took
returns-then-is_mark-clause-took c =
    let text = c.args.self.now.text.items in
    let place = c.args.self.now.line in
    let end : c.args.byte ≡ 10 = search rules in
    let is : ends_instance (drop place text) ≡ true = ap ends_instance (sym (rest_of place text c.deref.result.now c.deref.ensures.value)) ∙ sym c.is_mark.ensures ∙ c.if-is_mark.true in
    marked_as text place c.args.byte c.truncate.new.self.items c.requires.head c.requires.short end is c.truncate.ensures.items

pub returns-clause-took : goal.returns-clause-took
returns-clause-took c = elim c.if-byte-ne10.branch [
  | then-byte-ne10+in_ok-push w ↦
      let other : c.args.byte ≢ 10 = search rules in
      let new : c.if-byte-ne10.self.text.items ≡ c.args.self.now.text.items ++ c.args.byte ∷ [] = rw w.self-is w.in_ok-push.ensures.items in
      let place : c.if-byte-ne10.self.line ≡ c.args.self.now.line = rw w.self-is refl in
      byte_more_as c.args.self.now.text.items c.if-byte-ne10.self.text.items c.args.self.now.line c.if-byte-ne10.self.line c.args.byte c.requires.head c.requires.short other new place
  | else-byte-ne10+else-is_mark+in_ok-push-2+else-self-gt-LARGEST_FILE w ↦
      let end : c.args.byte ≡ 10 = search rules in
      let is : ends_instance (drop c.args.self.now.line c.args.self.now.text.items) ≡ false = ap ends_instance (sym (rest_of c.args.self.now.line c.args.self.now.text.items w.deref.result.now w.deref.ensures.value)) ∙ sym w.is_mark.ensures ∙ w.if-is_mark.false in
      let new : c.if-byte-ne10.self.text.items ≡ c.args.self.now.text.items ++ c.args.byte ∷ [] = rw w.self-is w.in_ok-push-2.ensures.items in
      let place : c.if-byte-ne10.self.line ≡ length c.if-byte-ne10.self.text.items = rw w.self-is (search rules) in
      let short : c.if-byte-ne10.self.line ≤ 16777216 = search rules in
      line_more_as c.args.self.now.text.items c.if-byte-ne10.self.text.items c.args.self.now.line c.if-byte-ne10.self.line c.args.byte c.requires.head end is new place short
]
