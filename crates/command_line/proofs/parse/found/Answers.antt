use Rattle.std.proofs.Common.{◌∙◌}
use Rattle.clap.specs.Words.{found_of, rows_of}
use Rattle.command_line.proofs.Found.{named, no_name}
use Rattle.command_line.proofs.parse.found.Goals as goal

pub returns-in-Some-clause-form : goal.returns-in-Some-clause-form
returns-in-Some-clause-form c = c.form_of.ensures.form ∙ named c.args.matches.now c.in-Some.name.now (rows_of (found_of c.in-Some.behind.now)) c.in-Some.ensures.name c.in-Some.ensures.rows

pub returns-in-None-clause-form : goal.returns-in-None-clause-form
returns-in-None-clause-form c = no_name c.args.matches.now c.in-None.ensures.rows
