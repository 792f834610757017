use Rattle.std.proofs.Common.{map, string_bytes}
use Rattle.std.specs.IoError.{error_kind}
use Rattle.dispatch.specs.Performed.{rest_of}
use Rattle.dispatch.proofs.Said.{program}
use Rattle.dispatch.proofs.words.run_over.Goals as goal

pub returns : goal.returns
returns g c = program c.words-words.result (λ words. map string_bytes words.items) error_kind
    (rest_of (g.I.Read.remaining c.args.input.now) (g.I.Read.remaining c.run_words.new.input) (g.E.Write.contents c.args.notes.now) (g.E.Write.contents c.run_words.new.notes))
    _ _ c.run_words.ensures.performed c.run_words.ensures.input c.run_words.ensures.notes
