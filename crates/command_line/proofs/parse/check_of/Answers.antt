use Rattle.std.proofs.Common.{Some, None}
use Rattle.clap.specs.Words.{found_of}
use Rattle.command_line.proofs.Found.{check_is}
use Rattle.command_line.proofs.parse.check_of.Goals as goal

pub returns-in-Some-clause-form : goal.returns-in-Some-clause-form
returns-in-Some-clause-form c = check_is (found_of c.args.matches.now) (Some c.in-Some.instance.now) c.in-Some.ensures

pub returns-in-None-clause-form : goal.returns-in-None-clause-form
returns-in-None-clause-form c = check_is (found_of c.args.matches.now) None c.in-None.ensures
