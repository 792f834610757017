use Rattle.std.proofs.Common.{ℕ, subst}
use Rattle.plan_core.specs.Plan.{AreApart}
use Rattle.move_core.specs.Moves.{changes_by}
use Rattle.board_rules.proofs.Outs.{all_known, feasible_all}
use Rattle.board_rules.proofs.laws.plans_are_judged_by_new_routes.Goals as goal

pub returns : goal.returns
returns c =
    let law = c.laws_below.ensures in
    record {
      known = λ s routes mv sized plan possible.
          let apart = (law.names.changes s.customers routes mv (changes_by routes mv) possible).apart in
          let next = law.keeps.plan s.customers routes mv (changes_by routes mv) plan possible in
          all_known s (changes_by routes mv) (subst (λ (n : ℕ). AreApart n (changes_by routes mv)) sized apart)
          (λ k d at. c.routes_are_known.ensures.new_known s.customers (changes_by routes mv) routes k d next apart at);
      feasible = λ s routes mv sized feasible possible fit.
          let apart = (law.names.changes s.customers routes mv (changes_by routes mv) possible).apart in
          feasible_all s (changes_by routes mv) routes sized (subst (λ (n : ℕ). AreApart n (changes_by routes mv)) sized apart) fit feasible;
    }
