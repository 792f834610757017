use Rattle.std.proofs.Common.{◌<◌, sym, ap, ◌∙◌, arith}
use Rattle.std.specs.Prelude.{count_ones}
use Rattle.separation_core.specs.Groups.{limits_of, breaks_coming}
use Rattle.separation_core.proofs.Passing.{few_given, none_given, rest_of_all}
use Rattle.separation_core.proofs.sets.Sets.has_broken.Goals as goal

pub returns-then-count-lt2 : goal.returns-then-count-lt2
returns-then-count-lt2 c =
    let small : count_ones c.args.given < 2 = omega (arith, c.count.ensures.value, c.if-count-lt2.true) in
    sym (few_given c.args.given (limits_of c.args.self.now) c.are_sets.ensures.kept.sound small)

pub returns-in_default : goal.returns-in_default
returns-in_default c = sym (few_given c.args.given (limits_of c.args.self.now) c.are_sets.ensures.kept.sound (none_given c.args.given c.in_default.ensures.none))

pub returns : goal.returns
returns c =
    c.has_broken_coming.ensures
    ∙ ap (λ rest. breaks_coming c.args.given rest c.args.self.now) c.remove.ensures
    ∙ rest_of_all c.args.given c.in-Some.role c.args.self.now c.are_sets.ensures.kept.sound
