use Rattle.std.proofs.Common.{Some}
use Rattle.clap.specs.Words.{found_of}
use Rattle.command_line.proofs.Found.{no_instance, no_script, run_is}
use Rattle.command_line.proofs.parse.run_found.Goals as goal

pub returns-in-Some-get_str : goal.returns-in-Some-get_str
returns-in-Some-get_str c = run_is (found_of c.args.matches.now) (Some c.in-Some.instance.now) (Some c.in-Some-get_str.script.now) _ _ _ _ _ _ c.in-Some.ensures c.in-Some-get_str.ensures c.get_str-in-Some-get_str.ensures c.get_str-in-Some-get_str-2.ensures c.get_str-in-Some-get_str-3.ensures c.get_str-in-Some-get_str-4.ensures c.get_str-in-Some-get_str-5.ensures c.get_str-in-Some-get_str-6.ensures

pub returns-in-None-get_str : goal.returns-in-None-get_str
returns-in-None-get_str c = no_script (found_of c.args.matches.now) (Some c.in-Some.instance.now) c.in-Some.ensures c.in-None-get_str.ensures

pub returns-in-None : goal.returns-in-None
returns-in-None c = no_instance (found_of c.args.matches.now) c.in-None.ensures
