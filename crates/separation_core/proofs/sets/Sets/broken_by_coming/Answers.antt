use Rattle.std.proofs.Common.{None, sym, ◌∙◌}
use Rattle.std.proofs.lemmas.Bool.{cond-true, cond-false}
use Rattle.separation_core.specs.Groups.{first_broken, breaks_coming}
use Rattle.separation_core.proofs.Passing.{whole_but_coming}
use Rattle.separation_core.proofs.sets.Sets.broken_by_coming.Goals as goal

pub returns-then-not-has_broken_coming-clause-value : goal.returns-then-not-has_broken_coming-clause-value
returns-then-not-has_broken_coming-clause-value c =
    sym (cond-false (breaks_coming c.args.given c.args.coming c.args.self.now) (first_broken c.args.given c.args.self.now) None (sym c.has_broken_coming.ensures ∙ c.if-not-has_broken_coming.true))

pub returns-then-not-has_broken_coming-clause-first : goal.returns-then-not-has_broken_coming-clause-first
returns-then-not-has_broken_coming-clause-first c before none within =
    sym (whole_but_coming before c.args.given c.args.coming within c.args.self.now none (sym c.has_broken_coming.ensures ∙ c.if-not-has_broken_coming.true))

pub returns-clause-value : goal.returns-clause-value
returns-clause-value c =
    c.broken_by.ensures.value
    ∙ sym (cond-true (breaks_coming c.args.given c.args.coming c.args.self.now) (first_broken c.args.given c.args.self.now) None (sym c.has_broken_coming.ensures ∙ c.if-not-has_broken_coming.false))

pub returns-clause-first : goal.returns-clause-first
returns-clause-first c before none within = c.broken_by.ensures.value
