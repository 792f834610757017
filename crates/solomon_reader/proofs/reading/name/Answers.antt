use Rattle.std.proofs.Common.{◌≡◌, sym, ◌∙◌, true}
use Rattle.solomon_reader.specs.Fields.{is_name}
use Rattle.solomon_reader.proofs.Names.{name_is_text}
use Rattle.solomon_reader.proofs.reading.name.Goals as goal

pub unwrap-requires : goal.unwrap-requires
unwrap-requires c =
    let named : is_name c.trimmed-name.result.now ≡ true = sym c.is_name.ensures ∙ c.if-not-is_name.false in
    c.from_utf8.ensures.succeeds (rw c.in_ok-bytes.ensures.items (name_is_text c.trimmed-name.result.now named))
