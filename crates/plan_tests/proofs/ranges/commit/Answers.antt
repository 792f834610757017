use Rattle.std.proofs.Common.{ℕ, List, subst, sym, ap, Global}
use Rattle.std.specs.declared.sync.Arc.{Arc}
use Rattle.dimension_core.specs.Setup.{setting}
use Rattle.plan_core.specs.Plan.{PlanState, changes_of}
use Rattle.range_cache.specs.Cache.{IsCacheOf}
use Rattle.range_cache.specs.Pending.{AreNewRows}
use Rattle.plan_tests.proofs.ranges.commit.Goals as goal

pub returns-clause-cache : goal.returns-clause-cache
returns-clause-cache g c =
    let s = setting c.args.setup.now in
    let changes = changes_of c.one_change-changes.result.items in
    let made : AreNewRows s (changes_of c.deref.result.now) c.expect-pending.result.rows = rw (c.expect-pending.ensures) at c.judge_in.ensures.rows in
    let rows = subst (λ (xs : List (ℕ × Arc (List ℕ) Global)). AreNewRows s (changes_of xs) c.expect-pending.result.rows) c.deref.ensures.value made in
    subst (λ (rs : List (List ℕ)). IsCacheOf s rs c.take.new.self) (sym (ap (λ (p : PlanState). p.routes) c.replace.ensures.plan))
    (c.take.ensures.cache s c.args.held.now.plan.routes changes c.requires.cache rows)
