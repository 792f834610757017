use Rattle.std.proofs.Common.{◌≡◌, ◌≤◌, ℕ, List, length, map, arith, subst}
use Rattle.std.specs.Prelude.{OnOk, OnErr}
use Rattle.std.proofs.lemmas.List.{take_all}
use Rattle.text_words.specs.Words.{words, AreFirstOf}
use Rattle.text_words.proofs.Parts.{few_words}
use Rattle.text_words.proofs.keep_all_words.Goals as goal

pub returns-clause-words : goal.returns-clause-words
returns-clause-words c =
    let line = c.args.line.now in
    let few : length (words line) ≤ 18446744073709551615 = omega (arith, few_words line, c.type_inv.line) in
    let all = take_all 18446744073709551615 (words line) few in
    subst (λ (ws : List (List ℕ)). OnOk c.keep_words.result (map (λ w. w.now) c.keep_words.new.kept.items ≡ ws)) all c.keep_words.ensures.words

pub returns-clause-left : goal.returns-clause-left
returns-clause-left c =
    let line = c.args.line.now in
    let few : length (words line) ≤ 18446744073709551615 = omega (arith, few_words line, c.type_inv.line) in
    let all = take_all 18446744073709551615 (words line) few in
    subst (λ (ws : List (List ℕ)). OnErr c.keep_words.result (AreFirstOf (map (λ w. w.now) c.keep_words.new.kept.items) ws)) all c.keep_words.ensures.left
