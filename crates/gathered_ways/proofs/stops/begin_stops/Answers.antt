use Rattle.std.proofs.lemmas.Result.{err_from_is_err_and}
use Rattle.gathered_ways.proofs.AllStops.{pushed_stops}
use Rattle.gathered_ways.proofs.stops.begin_stops.Goals as goal

pub returns-in_err-reserve : goal.returns-in_err-reserve
returns-in_err-reserve c = let p = err_from_is_err_and c.from_residual.result c.from_residual.ensures.1 in rw p.1 tt

pub returns-in_err-push : goal.returns-in_err-push
returns-in_err-push c = let p = err_from_is_err_and c.from_residual-in_err-push.result c.from_residual-in_err-push.ensures.1 in rw p.1 tt

pub returns-in_err-extend_from_slice : goal.returns-in_err-extend_from_slice
returns-in_err-extend_from_slice c = let p = err_from_is_err_and c.from_residual-in_err-extend_from_slice.result c.from_residual-in_err-extend_from_slice.ensures.1 in rw p.1 tt

pub returns-in_err-push-2 : goal.returns-in_err-push-2
returns-in_err-push-2 c = let p = err_from_is_err_and c.from_residual-in_err-push-2.result c.from_residual-in_err-push-2.ensures.1 in rw p.1 tt

pub returns : goal.returns
returns c = pushed_stops _ _ _ _ _ _ c.clear.ensures.items c.reserve.ensures.items c.in_ok-push.ensures.items c.in_ok-extend_from_slice.ensures.items c.in_ok-push-2.ensures.items
