use Rattle.std.proofs.Common.{◌/◌, ap, ◌∙◌, arith}
use Rattle.std.proofs.lemmas.Nat.{or_lt}
use Rattle.role_hierarchy.specs.Roles.{with_role}
use Rattle.role_hierarchy.specs.WordLaws.{with_role_words, word_small}
use Rattle.permission_core.specs.ObjectLaws.{place_within, words_set}
use Rattle.permission_core.proofs.objects.ObjectSet.insert.Goals as goal

pub invariant_of-self : goal.invariant_of-self
invariant_of-self c =
    let ws = c.self.inside.words in
    let r = c.args.object in
    words_set ws (r / 64) _ c.self.invariant (or_lt 64 _ _ (word_small ws (r / 64) c.self.invariant.small) (omega arith))

pub returns : goal.returns
returns c =
    let ws = c.self.inside.words in
    let r = c.args.object in
    with_role_words ws c.self.invariant.small r (place_within ws r c.self.invariant c.requires) (or_lt 64 _ _ (word_small ws (r / 64) c.self.invariant.small) (omega arith))
    ∙ ap (λ s. with_role s r) c.self.view_is
