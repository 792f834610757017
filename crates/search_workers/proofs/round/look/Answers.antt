use Rattle.std.proofs.Common.{sym, subst}
use Rattle.dimension_core.specs.Setting.{Setting}
use Rattle.move_judge.specs.View.{IsViewOf}
use Rattle.search_workers.proofs.Looking.{shown, is_view}
use Rattle.search_workers.proofs.round.look.Goals as goal

pub find-requires-clause-view : goal.find-requires-clause-view
find-requires-clause-view g c =
    let o = g.N.Naming.opening in
    let seat = c.refresh.new.self in
    let is = shown o seat.viewed seat.seen c.in-Some.view.now c.in-Ok.ensures.ok c.in-Some.ensures in
    subst (λ (s : Setting). IsViewOf s c.in-Some.view.now) (sym c.requires.setup) (is_view c.legal_histories_leave_good_states.ensures.good o seat.seen c.in-Some.view.now c.refresh.ensures.legal is)
