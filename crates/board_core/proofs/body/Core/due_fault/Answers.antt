use Rattle.std.proofs.Common.{◌≡◌, ◌<◌, ◌≤◌, sym, ◌∙◌, arith, length, subst, ap}
use Rattle.dimension_core.specs.Setup.{setting}
use Rattle.board_core.specs.Kept.{CoreState}
use Rattle.board_core.proofs.Keeping.{turn_due}
use Rattle.board_core.proofs.body.Core.due_fault.Goals as goal

pub returns-then-not-is_turn : goal.returns-then-not-is_turn
returns-then-not-is_turn g c = sym (c.is_turn.ensures (setting c.args.setup.now) c.requires) ∙ c.if-not-is_turn.true

pub returns-then-len-max_events : goal.returns-then-len-max_events
returns-then-len-max_events g c =
    let test = c.is_turn.ensures (setting c.args.setup.now) c.requires in
    let kept = subst (λ (core : CoreState). length core.journal ≤ (setting c.args.setup.now).max_events) (sym c.self.view_is) c.requires.few in
    let full : length c.self.inside.journal.entries ≡ (setting c.args.setup.now).max_events = omega (arith, kept, c.max_events.ensures.value) in
    (sym test ∙ c.if-not-is_turn.false, ap (λ (core : CoreState). length core.journal) (sym c.self.view_is) ∙ full)

pub returns : goal.returns
returns g c =
    let core = c.args.self.now in
    let test = c.is_turn.ensures (setting c.args.setup.now) c.requires in
    let turn = turn_due (length core.turns) core.journal c.args.desk c.args.turn (sym test ∙ c.if-not-is_turn.false) in
    let space : length c.self.inside.journal.entries < (setting c.args.setup.now).max_events = omega (arith, c.max_events.ensures.value) in
    record {
      low = turn.0;
      high = turn.1;
      due = sym test ∙ c.if-not-is_turn.false;
      space = subst (λ (x : CoreState). length x.journal < (setting c.args.setup.now).max_events) c.self.view_is space;
    }
