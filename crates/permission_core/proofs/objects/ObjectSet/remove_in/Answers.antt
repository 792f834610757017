use Rattle.std.proofs.Common.{◌≡◌, ℕ, ◌+◌, ◌-◌, ◌*◌, ◌^◌, ◌<◌, get_or, set, ap, ◌∙◌, arith}
use Rattle.std.specs.Prelude.{bit_and}
use Rattle.std.specs.Int.{bit_not, w64}
use Rattle.std.proofs.lemmas.Nat.{and_le_l}
use Rattle.role_hierarchy.specs.Words.{joined}
use Rattle.role_hierarchy.specs.WordLaws.{word_small}
use Rattle.permission_core.specs.Objects.{without_range}
use Rattle.permission_core.proofs.RangeLaws.{range_removed}
use Rattle.permission_core.proofs.objects.ObjectSet.remove_in.Goals as goal

pub returns : goal.returns
returns c =
    let ws = c.self.inside.words in
    let place = c.args.place in
    let low = c.args.low in
    let high = c.args.high in
    let few : 2 ^ high - 2 ^ low < 2 ^ 64 = omega (arith, c.ones_between-digits.ensures, c.ones_between-digits.type_inv) in
    ap (λ d. joined (set ws place (bit_and (get_or ws place 0) (bit_not w64 d)))) c.ones_between-digits.ensures
    ∙ range_removed ws c.self.invariant.small place low high (omega (arith, c.self.invariant.whole)) c.requires.order c.requires.small few (omega (arith, and_le_l, word_small ws place c.self.invariant.small))
    ∙ ap (λ s. without_range s (64 * place + low) (high - low)) c.self.view_is
