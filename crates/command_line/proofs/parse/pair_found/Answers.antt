use Rattle.std.proofs.Common.{Some}
use Rattle.clap.specs.Words.{found_of}
use Rattle.command_line.proofs.Found.{no_pair, no_rows, pair_is}
use Rattle.command_line.proofs.parse.pair_found.Goals as goal

pub returns-in-Some-get_str : goal.returns-in-Some-get_str
returns-in-Some-get_str c made = pair_is made (found_of c.args.matches.now) (Some c.in-Some.instance.now) (Some c.in-Some-get_str.rows.now) c.in-Some.ensures c.in-Some-get_str.ensures

pub returns-in-None-get_str : goal.returns-in-None-get_str
returns-in-None-get_str c made = no_rows made (found_of c.args.matches.now) (Some c.in-Some.instance.now) c.in-Some.ensures c.in-None-get_str.ensures

pub returns-in-None : goal.returns-in-None
returns-in-None c made = no_pair made (found_of c.args.matches.now) c.in-None.ensures
