use Rattle.std.proofs.Common.{List, ap, sym, ◌∙◌, subst}
use mathlib.Core.List.{IsPrefix}
use Rattle.board_rules.specs.declared.call.Entry.{Entry}
use Rattle.board_rules.specs.History.{turns_of}
use Rattle.board_lock.specs.Commits.{Legal}
use Rattle.board_lock.proofs.locked.Locked.catch_up.Goals as goal

pub returns-else-turns-own-clause-looked : goal.returns-else-turns-own-clause-looked
returns-else-turns-own-clause-looked g c =
    let back = sym c.show.ensures.seen in
    record {
      legal = subst (λ (es : List Entry). Legal g.N.Naming.opening es) back c.show.ensures.legal;
      grows = subst (λ (es : List Entry). IsPrefix c.args.eye.now.seen es) back c.show.ensures.grows;
      turns_are = ap (turns_of c.args.number) c.show.ensures.seen ∙ (sym c.turns.ensures.turns ∙ c.if-turns-own.false);
    }
