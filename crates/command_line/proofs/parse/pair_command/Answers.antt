use Rattle.std.proofs.Common.{rules, ap, ◌∙◌, ap₂}
use Rattle.clap.specs.Words.{with_rule}
use Rattle.clap.specs.Simple.{app_of_fields}
use Rattle.command_line.proofs.parse.pair_command.Goals as goal

pub returns-clause-ok : goal.returns-clause-ok
returns-clause-ok c =
    c.in_ok-arg-2.ensures.shape (search rules)
    ∙ ap₂ with_rule (c.in_ok-arg.ensures.shape (search rules)
    ∙ ap₂ with_rule (ap app_of_fields c.long_about.ensures
    ∙ ap app_of_fields c.about.ensures
    ∙ c.new.ensures.app) c.path.ensures.rule) c.path-2.ensures.rule
