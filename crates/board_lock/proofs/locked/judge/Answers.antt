use Rattle.std.proofs.Common.{sym, subst}
use Rattle.std.specs.Prelude.{IfOk}
use Rattle.dimension_core.specs.Setting.{Setting}
use Rattle.board_core.specs.Kept.{IsKept}
use Rattle.board_core.specs.Prepared.{Makes}
use Rattle.board_lock.proofs.locked.judge.Goals as goal

pub prepare-requires : goal.prepare-requires
prepare-requires g c = subst (λ (s : Setting). IsKept s c.args.core.now) (sym c.requires.setting) c.requires.kept

pub returns-clause-kept : goal.returns-clause-kept
returns-clause-kept g c = subst (λ (s : Setting). IsKept s c.prepare.new.self) c.requires.setting c.prepare.ensures.kept

pub returns-clause-makes : goal.returns-clause-makes
returns-clause-makes g c = subst (λ (s : Setting). IfOk c.prepare.result (Makes s)) c.requires.setting c.prepare.ensures.makes

pub returns-clause-untried : goal.returns-clause-untried
returns-clause-untried g c = c.prepare.ensures.untried c.requires.untried
