use Rattle.std.proofs.Common.{rules, tests, sym, ◌∙◌}
use Rattle.std.proofs.lemmas.Iterator.{YieldsList-from_slice}
use Rattle.std.proofs.lemmas.Iterator.Search.{all_from_yields_List}
use Rattle.solomon_reader.specs.Fields.{is_name_byte}
use Rattle.solomon_reader.proofs.Trimming.{all_printed}
use Rattle.solomon_reader.proofs.fields.is_name.Goals as goal

pub returns : goal.returns
returns c = all_printed c.args.text.now c.all.result (sym c.is_empty.ensures ∙ c.if-is_empty.false) c.if-text-gt-LONGEST_INSTANCE_NAME.false (all_from_yields_List is_name_byte _ _ c.all.result c.all.ensures.ran (YieldsList-from_slice c.args.text.now cc) (λ x b q k. search (rules, tests)))
