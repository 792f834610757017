use Rattle.std.proofs.Common.{sym, ◌∙◌}
use Rattle.separation_core.specs.Groups.{is_broken, limits_of}
use Rattle.separation_core.proofs.Passing.{no_place}
use Rattle.separation_core.proofs.sets.Sets.first_broken.Goals as goal

pub returns-then-not-has_broken : goal.returns-then-not-has_broken
returns-then-not-has_broken c = sym (no_place (is_broken c.args.given) (limits_of c.args.self.now) (sym c.has_broken.ensures ∙ c.if-not-has_broken.true))
