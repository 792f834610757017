use Rattle.std.proofs.Common.{ap, sym, ◌∙◌, ◌≡◌, ◌++◌, List, ℕ, length, map, append-nil}
use Rattle.std.proofs.lemmas.Bool.Decides.{nat_tests}
use Rattle.std.proofs.Common.{arith}
use Rattle.plan_sums.proofs.Cutting.{lines_none}
use Rattle.plan_sums.proofs.lines.lines_of.Goals as goal

pub returns : goal.returns
returns c =
    let empty : length c.lines.left.now ≡ 0 = grind (arith, nat_tests) in
    sym (append-nil (map (λ w. w.now) c.lines.kept.items)) ∙ ap (λ (l : List (List ℕ)). map (λ w. w.now) c.lines.kept.items ++ l) (sym (lines_none c.lines.left.now empty)) ∙ c.lines.invariant
