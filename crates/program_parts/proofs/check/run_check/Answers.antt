use Rattle.std.proofs.Common.{◌∙◌, ap, rules, subst, sym, Result}
use Rattle.std.proofs.lemmas.Result.{err_from_is_err_and}
use Rattle.solomon_reader.specs.Instances.{view}
use Rattle.solomon_reader.specs.Reading.{read_of}
use Rattle.program_parts.specs.declared.stop.Stop.{Stop}
use Rattle.program_parts.specs.declared.stop.Stop.TheVariants as stops
use Rattle.program_parts.specs.Report.{ChecksTo}
use Rattle.program_parts.proofs.Checked.{unreported, half_written, unflushed}
use Rattle.program_parts.proofs.check.run_check.Goals as goal

pub returns-in_err-text : goal.returns-in_err-text
returns-in_err-text g c =
    let p = err_from_is_err_and c.from_residual-in_err-text.result c.from_residual-in_err-text.ensures.1 in
    subst (λ (x : Result (Unit {0}) Stop). ChecksTo (read_of c.args.bytes.now) (g.W.Write.contents c.args.writer.now) (g.W.Write.contents c.args.writer.now) x) (sym p.1)
    (unreported p.0 (read_of c.args.bytes.now) (g.W.Write.contents c.args.writer.now) p.2)

pub returns-in_err-write_whole : goal.returns-in_err-write_whole
returns-in_err-write_whole g c =
    let p = err_from_is_err_and c.from_residual-in_err-write_whole.result c.from_residual-in_err-write_whole.ensures.1 in
    subst (λ (x : Result (Unit {0}) Stop). ChecksTo (read_of c.args.bytes.now) (g.W.Write.contents c.args.writer.now) (g.W.Write.contents c.write_whole.new.writer) x) (sym p.1)
    (half_written p.0 (read_of c.args.bytes.now) (view c.in_ok-instance.instance) c.as_bytes.result.now _ _ (p.2 ∙ ap stops.Run c.in_err-write_whole.ensures.kind) c.in_ok-instance.ensures.exact (search rules) c.in_err-write_whole.ensures.err)

pub returns : goal.returns
returns g c = unflushed (read_of c.args.bytes.now) (view c.in_ok-instance.instance) c.as_bytes.result.now (g.W.Write.contents c.args.writer.now) (g.W.Write.contents c.write_whole.new.writer) (g.W.Write.contents c.flush.new.self) c.in_ok-instance.ensures.exact (search rules) c.in_ok-write_whole.ensures.ok c.flush.ensures.bytes
