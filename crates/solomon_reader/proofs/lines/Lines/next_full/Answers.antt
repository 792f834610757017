use Rattle.std.proofs.Common.{rules, ◌≡◌, [], List, ℕ, length, arith, ap, ◌∙◌}
use Rattle.std.proofs.lemmas.Bool.Decides.{nat_tests}
use Rattle.std.proofs.lemmas.Grind.{common_steps}
use Rattle.text_words.specs.Words.{words}
use Rattle.solomon_reader.specs.Cuts.{lines, full_lines}
use Rattle.solomon_reader.proofs.Cutting.{lines_none, no_words}
use Rattle.solomon_reader.proofs.lines.Lines.next_full.Goals as goal

pub lines-preserved : goal.lines-preserved
lines-preserved c =
    let empty : length c.keep_words.new.kept.items ≡ 0 = search rules in
    let none = no_words c.keep_words.new.kept.items (words c.unwrap_or-text.result.now) c.args.most c.requires empty c.in_ok-keep_words.ensures.words in
    grind (arith, common_steps)

pub returns : goal.returns
returns c =
    let empty : length c.lines.self.rest.now ≡ 0 = grind (arith, nat_tests) in
    let none : lines c.lines.self.rest.now ≡ [] = lines_none c.lines.self.rest.now empty in
    let zero : length (lines c.lines.self.rest.now) ≡ 0 = ap (length {A = List ℕ}) none in
    record { line = (c.lines.invariant.0 ∙ ap (full_lines c.lines.self.number) none, omega (arith, c.lines.invariant.1, zero)) }
