use Rattle.std.proofs.Common.{ap, ◌∙◌}
use Rattle.text_words.specs.Words.{number}
use Rattle.text_words.proofs.Digits.{four_of}
use Rattle.text_words.proofs.read_number.Goals as goal

pub returns-in-len4 : goal.returns-in-len4
returns-in-len4 c = c.four_digits.ensures ∙ ap number (four_of c.args.word.now c.in-len4.len_at_least c.in-len4.len_below)
