use Rattle.std.proofs.Common.{ap, rules, arith}
use Rattle.program_parts.proofs.Whole.{whole}
use Rattle.program_parts.proofs.files.read_file.Goals as goal

pub returns-clause-whole : goal.returns-clause-whole
returns-clause-whole g c = whole c.take.result.limit (g.I.Read.remaining c.take.result.inner) (g.I.Read.remaining c.args.file) c.new-text.result.items c.read_to_end.new.buf.items c.take.ensures.limit (ap g.I.Read.remaining c.take.ensures.inner) c.new-text.ensures.items c.in_ok-read_to_end.ensures.bytes (first_of (search rules, grind (arith, rules)))
