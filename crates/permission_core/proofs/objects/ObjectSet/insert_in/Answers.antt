use Rattle.std.proofs.Common.{◌≡◌, ℕ, ◌+◌, ◌-◌, ◌*◌, ◌^◌, ◌<◌, get_or, set, ap, ◌∙◌, arith}
use Rattle.std.specs.Prelude.{bit_or}
use Rattle.std.proofs.lemmas.Nat.{or_lt}
use Rattle.role_hierarchy.specs.Words.{joined}
use Rattle.role_hierarchy.specs.WordLaws.{word_small}
use Rattle.permission_core.specs.Objects.{with_range}
use Rattle.permission_core.specs.ObjectLaws.{words_set}
use Rattle.permission_core.proofs.RangeLaws.{range_inserted}
use Rattle.permission_core.proofs.objects.ObjectSet.insert_in.Goals as goal

pub invariant_of-self : goal.invariant_of-self
invariant_of-self c =
    let ws = c.self.inside.words in
    words_set ws c.args.place _ c.self.invariant (or_lt 64 _ _ (word_small ws c.args.place c.self.invariant.small) c.ones_between-digits.type_inv)

pub returns : goal.returns
returns c =
    let ws = c.self.inside.words in
    let place = c.args.place in
    let low = c.args.low in
    let high = c.args.high in
    let few : 2 ^ high - 2 ^ low < 2 ^ 64 = omega (arith, c.ones_between-digits.ensures, c.ones_between-digits.type_inv) in
    ap (λ d. joined (set ws place (bit_or (get_or ws place 0) d))) c.ones_between-digits.ensures
    ∙ range_inserted ws c.self.invariant.small place low high (omega (arith, c.self.invariant.whole)) c.requires.order c.requires.small (or_lt 64 _ _ (word_small ws place c.self.invariant.small) few)
    ∙ ap (λ s. with_range s (64 * place + low) (high - low)) c.self.view_is
