use Rattle.std.proofs.Common.{◌++◌}
use Rattle.std.specs.Prelude.{codes}
use Rattle.plan_program.proofs.Reported.{report_then, report_part}
use Rattle.plan_program.proofs.fault_line.tell_line.Goals as goal

pub returns-in_default : goal.returns-in_default
returns-in_default g c = report_part _ _ _ c.args.head.now (c.args.rest.now ++ codes "\n") c.as_bytes.ensures.value c.in_default.ensures.err

pub returns-in_default-write_whole : goal.returns-in_default-write_whole
returns-in_default-write_whole g c =
    report_then _ _ _ _ c.args.head.now (c.args.rest.now ++ codes "\n") c.as_bytes.ensures.value c.in-Ok.ensures.ok
    (report_part _ _ _ c.args.rest.now (codes "\n") c.as_bytes-2.ensures.value c.in_default-write_whole.ensures.err)

pub returns : goal.returns
returns g c =
    report_then _ _ _ _ c.args.head.now (c.args.rest.now ++ codes "\n") c.as_bytes.ensures.value c.in-Ok.ensures.ok
    (report_then _ _ _ _ c.args.rest.now (codes "\n") c.as_bytes-2.ensures.value c.in-Ok-write_whole.ensures.ok c.tell_text.ensures)
