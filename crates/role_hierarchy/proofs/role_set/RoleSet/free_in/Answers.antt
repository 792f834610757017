use Rattle.std.proofs.Common.{◌+◌, ◌*◌, sym, ap, ◌∙◌, arith, get_or}
use Rattle.std.specs.Int.{trailing_ones, w64}
use Rattle.role_hierarchy.specs.Roles.{has}
use Rattle.role_hierarchy.specs.WordLaws.{all_full, free_in_word, has_no_lowest, all_lower}
use Rattle.role_hierarchy.proofs.role_set.RoleSet.free_in.Goals as goal

pub returns-then-word-clause-none : goal.returns-then-word-clause-none
returns-then-word-clause-none c q low high =
    ap (λ s. has s q) (sym c.self.view_is) ∙ all_full c.self.inside.words c.self.invariant.small c.args.place c.if-word.true q low high

pub overflow_cast-result : goal.overflow_cast-result
overflow_cast-result c =
    (let low = free_in_word c.self.inside.words c.self.invariant.small c.args.place c.if-word.false in
    omega (arith, low, c.trailing_ones.ensures, c.requires))

pub returns-clause-free : goal.returns-clause-free
returns-clause-free c =
    ap (λ n. has c.args.self.now (64 * c.args.place + n)) c.trailing_ones.ensures
    ∙ ap (λ s. has s (64 * c.args.place + trailing_ones w64 (get_or c.self.inside.words c.args.place 0))) (sym c.self.view_is)
    ∙ has_no_lowest c.self.inside.words c.self.invariant.small c.args.place c.if-word.false

pub returns-clause-least : goal.returns-clause-least
returns-clause-least c q low high =
    ap (λ s. has s q) (sym c.self.view_is)
    ∙ all_lower c.self.inside.words c.self.invariant.small c.args.place c.if-word.false q low (omega (arith, high, c.trailing_ones.ensures))
