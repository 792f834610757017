use Rattle.separation_core.proofs.NameTexts.{name_is_text}
use Rattle.separation_core.proofs.name.Name.as_str.Goals as goal

pub unreachable-requires : goal.unreachable-requires
unreachable-requires c = c.in_default.ensures.cases.0 (name_is_text _ c.as_bytes.ensures.valid)
