use Rattle.std.proofs.Common.{◌∙◌, sym}
use Rattle.solomon_reader.proofs.Numbers.{with_zeros, without_zeros, without_dot}
use Rattle.solomon_reader.proofs.fields.number_in.Goals as goal

pub returns-in_default : goal.returns-in_default
returns-in_default c = c.whole_number.ensures ∙ sym (without_dot c.args.word.now c.cut_at.result.0.now (rw c.in_default.is at c.cut_at.ensures.parts))

pub returns-then-is_zeros : goal.returns-then-is_zeros
returns-then-is_zeros c = c.whole_number-then-is_zeros.ensures ∙ sym (with_zeros c.args.word.now c.cut_at.result.0.now c.in-Some.zeros.now (rw c.in-Some.is at c.cut_at.ensures.parts) (sym c.is_zeros.ensures ∙ c.if-is_zeros.true))

pub returns-else-is_zeros : goal.returns-else-is_zeros
returns-else-is_zeros c = sym (without_zeros c.args.word.now c.cut_at.result.0.now c.in-Some.zeros.now (rw c.in-Some.is at c.cut_at.ensures.parts) (sym c.is_zeros.ensures ∙ c.if-is_zeros.false))
