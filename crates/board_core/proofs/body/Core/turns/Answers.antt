use Rattle.std.proofs.Common.{arith}
use Rattle.std.specs.Prelude.{◌==◌}
use Rattle.std.proofs.lemmas.List.Sums.{count_by-le-length}
use Rattle.board_rules.specs.declared.call.Entry.{Entry}
use Rattle.board_core.proofs.body.Core.turns.Goals as goal

pub returns-clause-few : goal.returns-clause-few
returns-clause-few c s kept =
    let few = count_by-le-length (λ (e : Entry). e.desk == c.args.desk) c.args.self.now.journal in
    let is = c.last_turn.ensures s kept in
    let all = kept.few in
    omega (arith, few, is, all)
