use Rattle.std.proofs.Common.{rules, tests, eqb, sym, ◌∙◌}
use Rattle.std.proofs.lemmas.Iterator.{YieldsList-from_slice}
use Rattle.std.proofs.lemmas.Iterator.Search.{all_from_yields_List}
use Rattle.solomon_reader.proofs.Numbers.{all_zeros}
use Rattle.solomon_reader.proofs.fields.is_zeros.Goals as goal

pub returns-then-not-is_empty : goal.returns-then-not-is_empty
returns-then-not-is_empty c = all_zeros c.args.text.now c.all.result (sym c.is_empty.ensures ∙ c.if-not-is_empty.true) (all_from_yields_List (λ b. eqb b 48) _ _ c.all.result c.all.ensures.ran (YieldsList-from_slice c.args.text.now cc) (λ x b q k. search (rules, tests)))
