use Rattle.std.proofs.Common.{ap₂, ◌∙◌}
use Rattle.std.specs.Prelude.{bit_or}
use Rattle.permission_table.proofs.WordLaws.{small_joined, number_joined}
use Rattle.permission_table.proofs.row.Row.join.Goals as goal

pub invariant_of-self : goal.invariant_of-self
invariant_of-self c = record {
  whole = c.join_words.array_long;
  small = small_joined c.self.inside.words c.words-one.result.now c.words-other.result.now c.join_words.new.words c.self.invariant.small c.words-one.ensures.whole.small c.words-other.ensures.whole.small c.join_words.ensures;
}

pub returns : goal.returns
returns c =
    number_joined c.self.inside.words c.words-one.result.now c.words-other.result.now c.join_words.new.words c.self.invariant.small c.words-one.ensures.whole.small c.words-other.ensures.whole.small c.join_words.ensures
    ∙ ap₂ bit_or (ap₂ bit_or c.self.view_is (c.words-one.ensures.value ∙ c.permissions.ensures)) (c.words-other.ensures.value ∙ c.permissions-2.ensures)
