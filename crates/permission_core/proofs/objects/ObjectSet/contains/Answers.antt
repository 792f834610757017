use Rattle.std.proofs.Common.{◌/◌, ◌%◌, get_or, eqb, sym, ap, ◌∙◌, arith}
use Rattle.std.proofs.lemmas.Nat.Bits.{shr_and_one}
use Rattle.role_hierarchy.specs.Roles.{has}
use Rattle.role_hierarchy.specs.WordLaws.{has_word}
use Rattle.permission_core.specs.ObjectLaws.{place_within}
use Rattle.permission_core.proofs.objects.ObjectSet.contains.Goals as goal

pub returns : goal.returns
returns c =
    let ws = c.self.inside.words in
    let r = c.args.object in
    ap (λ n. eqb n 1) (shr_and_one (get_or ws (r / 64) 0) (r % 64))
    ∙ sym (has_word ws c.self.invariant.small r (place_within ws r c.self.invariant c.requires))
    ∙ ap (λ s. has s r) c.self.view_is
