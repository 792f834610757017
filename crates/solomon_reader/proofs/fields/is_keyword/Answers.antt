use Rattle.std.proofs.Common.{rules}
use Rattle.std.proofs.lemmas.Slice.Eq.{bytes_eq-Decides}
use Rattle.solomon_reader.proofs.fields.is_keyword.Goals as goal

pub returns : goal.returns
returns c = search (rules, bytes_eq-Decides)
