use Rattle.std.proofs.Common.{ap, ap₂, ◌∙◌}
use Rattle.std.specs.Prelude.{bit_or}
use Rattle.permission_table.specs.Rights.{part_of}
use Rattle.permission_table.proofs.WordLaws.{each_added, small_added, number_added}
use Rattle.permission_table.proofs.row.Row.add.Goals as goal

pub invariant_of-self : goal.invariant_of-self
invariant_of-self c = record {
  whole = c.add_words.array_long;
  small = small_added c.self.inside.words c.words.result.now c.add_words.new.words c.self.invariant.small c.words.ensures.whole.small c.args.words.0 c.args.words.1
      (each_added c.self.inside.words c.words.result.now c.add_words.new.words c.args.words.0 c.args.words.1 c.add_words.ensures.inside c.add_words.ensures.below c.add_words.ensures.above);
}

pub returns : goal.returns
returns c =
    number_added c.self.inside.words c.words.result.now c.add_words.new.words c.self.invariant.small c.words.ensures.whole.small c.args.words.0 c.args.words.1
    (each_added c.self.inside.words c.words.result.now c.add_words.new.words c.args.words.0 c.args.words.1 c.add_words.ensures.inside c.add_words.ensures.below c.add_words.ensures.above)
    ∙ ap₂ bit_or c.self.view_is (ap (part_of c.args.words.0 c.args.words.1) (c.words.ensures.value ∙ c.permissions.ensures))
