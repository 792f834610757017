use Rattle.std.proofs.Common.{◌≡◌, ◌∙◌, ap}
use Rattle.std.proofs.lemmas.Result.{IfOk-weaker}
use Rattle.clap.specs.Words.{App, app_of, with_subcommand}
use Rattle.command_line.specs.CommandLine.{check_line, first_line, run_line}
use Rattle.command_line.proofs.parse.first_commands.Goals as goal

pub returns-clause-ok : goal.returns-clause-ok
returns-clause-ok c = IfOk-weaker c.added-2.result _ (λ command. app_of command ≡ first_line)
    (λ command adds. adds run_line c.run_with_switches.ensures.ok ∙ ap (λ (a : App). with_subcommand a run_line.top)
    (c.in_ok-checking.ensures.ok check_line c.check_command.ensures.ok ∙ ap (λ (a : App). with_subcommand a check_line.top) c.program.ensures))
    c.added-2.ensures.ok
