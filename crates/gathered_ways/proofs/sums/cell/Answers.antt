use Rattle.std.proofs.Common.{arith}
use Rattle.gathered_ways.proofs.WaySums.{row_fits}
use Rattle.gathered_ways.proofs.sums.cell.Goals as goal

pub row-requires : goal.row-requires
row-requires c =
    let fits = row_fits c.args.from c.args.width c.args.width c.requires.from in
    let sized = c.requires.sized in
    record { high = omega arith }
