use Rattle.std.proofs.Common.{sym}
use Rattle.plan_sums.proofs.Taking.{taken_more}
use Rattle.plan_sums.proofs.reading.Taken.take.Goals as goal

pub returns : goal.returns
returns c = (
  c.in_ok-push.ensures.items,
  taken_more c.args.roads.now c.args.self.now.rows.items c.push.new.self.items c.args.row c.args.self.now.seen.items c.in_ok-push.ensures.items (sym c.if-not-fits.ensures.value) c.if-not-fits.ensures.few c.requires,
)
