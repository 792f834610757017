use Rattle.std.proofs.Common.{◌≡◌, ℕ, ◌+◌, ◌*◌, ◌/◌, ◌^◌, ◌<◌, sym, ap, ◌∙◌, arith, get_or}
use Rattle.std.specs.Int.{trailing_zeros, w64}
use Rattle.role_hierarchy.specs.Roles.{has}
use Rattle.role_hierarchy.specs.WordLaws.{none_shifted, in_word, has_lowest, none_lower}
use Rattle.role_hierarchy.proofs.role_set.RoleSet.next_in.Goals as goal

some : (n : ℕ) → (n ≡ 0 → ⊥) → 0 < n
some n h = omega (arith, h)

pub returns-then-word-eq0-clause-none : goal.returns-then-word-eq0-clause-none
returns-then-word-eq0-clause-none c q low high =
    ap (λ s. has s q) (sym c.self.view_is)
    ∙ none_shifted c.self.inside.words c.self.invariant.small c.args.place c.args.first c.requires.first c.if-word-eq0.true q low high

pub overflow_cast-result : goal.overflow_cast-result
overflow_cast-result c =
    (let low = in_word c.self.inside.words c.self.invariant.small c.args.place c.args.first c.requires.first (some _ c.if-word-eq0.false) in
    omega (arith, low, c.requires.place))

pub returns-clause-member : goal.returns-clause-member
returns-clause-member c =
    ap (λ s. has s (64 * c.args.place + c.args.first + trailing_zeros w64 (get_or c.self.inside.words c.args.place 0 / 2 ^ c.args.first))) (sym c.self.view_is)
    ∙ has_lowest c.self.inside.words c.self.invariant.small c.args.place c.args.first c.requires.first (some _ c.if-word-eq0.false)

pub returns-clause-least : goal.returns-clause-least
returns-clause-least c q low high =
    ap (λ s. has s q) (sym c.self.view_is)
    ∙ none_lower c.self.inside.words c.self.invariant.small c.args.place c.args.first c.requires.first (some _ c.if-word-eq0.false) q low high
