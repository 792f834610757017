use Rattle.std.proofs.Common.{◌≡◌, arith}
use Rattle.callback_store.specs.Registry.{tables}
use Rattle.callback_store.specs.Tables.{entry}
use Rattle.dimension_core.specs.Cumuls.{table_of}
use Rattle.dimension_core.proofs.Joints.{preceding_span}
use Rattle.dimension_core.proofs.dimension.Dimension.precede.Goals as goal

pub returns-then-lo-hi-clause-span : goal.returns-then-lo-hi-clause-span
returns-then-lo-hi-clause-span g c =
    let a : c.ask-way.result ≡ entry (table_of (tables c.args.registry.now) c.args.self.now) c.args.i c.args.j = cc in
    let h = c.if-range-way.false in
    preceding_span (table_of (tables c.args.registry.now) c.args.self.now) c.args.self.now c.args.vehicle c.args.i c.args.j c.args.range _
    c.requires.filled (omega arith) (cc) (cc) c.if-lo-hi.true
