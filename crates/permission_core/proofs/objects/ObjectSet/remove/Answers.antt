use Rattle.std.proofs.Common.{◌/◌, ap, ◌∙◌, arith}
use Rattle.std.proofs.lemmas.Nat.{and_le_l}
use Rattle.role_hierarchy.specs.Roles.{without}
use Rattle.role_hierarchy.specs.WordLaws.{without_words, word_small}
use Rattle.permission_core.specs.ObjectLaws.{place_within, words_set}
use Rattle.permission_core.proofs.objects.ObjectSet.remove.Goals as goal

pub invariant_of-self : goal.invariant_of-self
invariant_of-self c =
    let ws = c.self.inside.words in
    words_set ws (c.args.object / 64) _ c.self.invariant (omega (arith, and_le_l, word_small ws (c.args.object / 64) c.self.invariant.small))

pub returns : goal.returns
returns c =
    let ws = c.self.inside.words in
    let r = c.args.object in
    without_words ws c.self.invariant.small r (place_within ws r c.self.invariant c.requires) (omega (arith, and_le_l, word_small ws (r / 64) c.self.invariant.small))
    ∙ ap (λ s. without s r) c.self.view_is
