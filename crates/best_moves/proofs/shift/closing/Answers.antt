use Rattle.std.proofs.Common.{◌∙◌, arith, true, false}
use Rattle.best_moves.specs.Searched.{searched, costs_of}
use Rattle.best_moves.proofs.Tabled.{room_from, closed_first, closed_last}
use Rattle.best_moves.proofs.Small.{gap_fits, gap_from, one_small, row_end, wide_some}
use Rattle.best_moves.proofs.shift.closing.Goals as goal

pub returns-then-after-from-clause-value : goal.returns-then-after-from-clause-value
returns-then-after-from-clause-value g c =
    let q = searched c.args.search.now in
    let a = c.args.gathered.now in
    let r = c.requires.gathered in
    c.way_at-then-after-from.ensures.value ∙ closed_last (costs_of q) q.setting.customers q.view.routes q.v q.w a.from.now a.to.now a.out.now c.row-goes.result.now c.args.before c.args.after r.from r.to r.out c.if-after-from.true c.requires.order c.row-goes.ensures.cells

pub row-comes-requires : goal.row-comes-requires
row-comes-requires g c =
    let q = searched c.args.search.now in
    let a = c.args.gathered.now in
    record { high = room_from true (costs_of q) a.from.now a.to.now a.into.now 1 0 c.args.after c.requires.gathered.into c.requires.after }

pub way_at-requires : goal.way_at-requires
way_at-requires g c =
    let wide = c.requires.gathered.to.sized in
    let long = c.row-comes.ensures.sized in
    omega arith

pub returns-then-before-eq0-clause-value : goal.returns-then-before-eq0-clause-value
returns-then-before-eq0-clause-value g c =
    let q = searched c.args.search.now in
    let a = c.args.gathered.now in
    let r = c.requires.gathered in
    c.way_at.ensures.value ∙ closed_first (costs_of q) q.setting.customers q.view.routes q.v q.w a.from.now a.to.now a.into.now c.row-comes.result.now c.args.before c.args.after r.from r.to r.into c.if-before-eq0.true c.requires.order c.requires.after c.row-comes.ensures.cells

pub hop-requires-clause-from : goal.hop-requires-clause-from
hop-requires-clause-from g c =
    let order = c.requires.order in
    let high = c.requires.after in
    c.requires.gathered.from.known c.args.before 0 (omega arith)

pub hop-requires-clause-to : goal.hop-requires-clause-to
hop-requires-clause-to g c = c.requires.gathered.from.known c.args.after 0 c.requires.after

pub returns-clause-value : goal.returns-clause-value
returns-clause-value g c = c.hop.ensures.value

pub returns-clause-small : goal.returns-clause-small
returns-clause-small g c =
    let small = c.hop.ensures.small in
    omega arith

pub row-goes-requires : goal.row-goes-requires
row-goes-requires g c =
    let q = searched c.args.search.now in
    let a = c.args.gathered.now in
    let order = c.requires.order in
    let high = c.requires.after in
    record { high = room_from false (costs_of q) a.from.now a.to.now a.out.now 0 1 c.args.before c.requires.gathered.out (omega arith) }

pub returns-then-before-eq0-clause-small : goal.returns-then-before-eq0-clause-small
returns-then-before-eq0-clause-small g c = one_small _ c.way_at.ensures.small

pub overflow_add-after : goal.overflow_add-after
overflow_add-after g c = gap_fits c.args.after _ c.requires.after c.requires.gathered.from.short

pub overflow_sub-width : goal.overflow_sub-width
overflow_sub-width g c = wide_some _ _ c.requires.gathered.to.sized

pub way_at-requires-then-after-from : goal.way_at-requires-then-after-from
way_at-requires-then-after-from g c = row_end _ _ _ c.row-goes.ensures.sized c.requires.gathered.to.sized

pub returns-then-after-from-clause-small : goal.returns-then-after-from-clause-small
returns-then-after-from-clause-small g c = one_small _ c.way_at-then-after-from.ensures.small

pub bounds-from-before : goal.bounds-from-before
bounds-from-before g c = gap_from c.args.before c.args.after _ c.requires.order c.requires.after

pub bounds-from-after : goal.bounds-from-after
bounds-from-after g c = c.requires.after
