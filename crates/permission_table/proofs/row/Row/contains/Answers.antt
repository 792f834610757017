use Rattle.std.proofs.Common.{◌/◌, ◌%◌, get_or, eqb, sym, ap, ◌∙◌, arith}
use Rattle.std.proofs.lemmas.Nat.Bits.{shr_and_one}
use Rattle.role_hierarchy.specs.Roles.{has}
use Rattle.role_hierarchy.specs.WordLaws.{has_word}
use Rattle.permission_table.proofs.row.Row.contains.Goals as goal

pub returns : goal.returns
returns c =
    let ws = c.self.inside.words in
    let number = c.args.number in
    ap (λ n. eqb n 1) (shr_and_one (get_or ws (number / 64) 0) (number % 64))
    ∙ sym (has_word ws c.self.invariant.small number (omega (arith, c.self.invariant.whole, c.requires)))
    ∙ ap (λ s. has s number) c.self.view_is
