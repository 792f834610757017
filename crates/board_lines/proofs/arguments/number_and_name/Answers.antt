use Rattle.std.proofs.Common.{Ok, refl}
use Rattle.board_lines.specs.Arguments.{no_more}
use Rattle.board_lines.specs.Table.{nothing, name, number}
use Rattle.board_lines.proofs.Words.{after_number_bad, fault_passed, name_bad, name_read, number_bad, number_read, two_read, word_at}
use Rattle.board_lines.proofs.arguments.number_and_name.Goals as goal

pub returns-in_err-first : goal.returns-in_err-first
returns-in_err-first c =
    let ws = c.args.arguments.now in
    fault_passed _ _ _ _ c.from_residual.ensures (two_read (number (name nothing)) ws _ c.in-len2.len_at_least c.in-len2.len_below (λ x y. refl) (number_bad (word_at ws 0) _ _ c.in_err-first.ensures))

pub returns-in_err-second : goal.returns-in_err-second
returns-in_err-second c =
    let ws = c.args.arguments.now in
    fault_passed _ _ _ _ c.from_residual-in_err-second.ensures (two_read (number (name nothing)) ws _ c.in-len2.len_at_least c.in-len2.len_below (λ x y. refl) (after_number_bad (word_at ws 0) _ _ _ c.in_ok-first.ensures (name_bad (word_at ws 1) (Ok no_more) _ c.in_err-second.ensures)))

pub returns : goal.returns
returns c =
    let ws = c.args.arguments.now in
    two_read (number (name nothing)) ws _ c.in-len2.len_at_least c.in-len2.len_below (λ x y. refl) (number_read (word_at ws 0) _ _ _ c.in_ok-first.ensures (name_read (word_at ws 1) _ _ _ c.in_ok-second.ensures refl))
